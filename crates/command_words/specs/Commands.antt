-- The words that are a command, and which one.
use Rattle.std.specs.Prelude.{ℕ, ◌-◌, ◌^◌, List, [], ◌∷◌, ◌++◌, Option, Some, None, unwrap_or, option_map, option_and_then, if◌then◌else◌, bytes_eq, codes, IsTrue, ⊤}
use Rattle.queue_name.specs.QueueName.{Name, is_name, in_lower_case}
use Rattle.kumo_base.specs.Limits.{latest_moment}
use Rattle.policy_core.specs.Limits.{unspecified}
use Rattle.command_words.specs.Limits.{greatest_workers, greatest_load}
use Rattle.command_words.specs.Options.{GivenOption, options_in, value_of, are_allowed, number_in}

-- the names of the policy texts, of those that are given
pub record PolicyNames : Type 0 where
  pub sources : Option (List ℕ)
  pub queues : Option (List ℕ)
  pub shaping : Option (List ℕ)
  pub mx : Option (List ℕ)

-- what is asked about a queue's name and a source
pub record Question : Type 0 where
  pub texts : PolicyNames
  pub name : Name
  pub source : List ℕ

-- what is sent, and how
pub record Sending : Type 0 where
  pub mail : List ℕ
  pub texts : PolicyNames
  pub peers : Option (List ℕ)
  pub orders : Option (List ℕ)
  pub until : Option ℕ
  pub start : Option ℕ
  pub spool : Option (List ℕ)

pub data Command : Type 0 where
  check : PolicyNames → Command
  explain : Question → Command
  spool : Option (List ℕ) → Command
  send : Sending → Command
  crew : Sending → ℕ → Command
  load : ℕ → ℕ → Command

-- the options of each command
abbrev pub names_of_texts : List (List ℕ)
names_of_texts = codes "--sources" ∷ codes "--queues" ∷ codes "--shaping" ∷ codes "--mx" ∷ []

abbrev pub names_of_name : List (List ℕ)
names_of_name = codes "--domain" ∷ codes "--tenant" ∷ codes "--campaign" ∷ codes "--source" ∷ []

abbrev pub names_of_question : List (List ℕ)
names_of_question = names_of_texts ++ names_of_name

abbrev pub names_of_mail : List (List ℕ)
names_of_mail =
    codes "--mail" ∷ codes "--peers" ∷ codes "--orders" ∷ codes "--until" ∷ codes "--start" ∷ codes "--spool" ∷ []

abbrev pub names_of_sending : List (List ℕ)
names_of_sending = names_of_texts ++ names_of_mail

abbrev pub names_of_crew : List (List ℕ)
names_of_crew = names_of_sending ++ codes "--workers" ∷ []

abbrev pub names_of_load : List (List ℕ)
names_of_load = codes "--seed" ∷ codes "--count" ∷ []

-- what the options say
abbrev pub texts_of : List GivenOption → PolicyNames
texts_of os = record {
  sources = value_of (codes "--sources") os;
  queues = value_of (codes "--queues") os;
  shaping = value_of (codes "--shaping") os;
  mx = value_of (codes "--mx") os;
}

-- the domain counts in lower case
abbrev pub name_asked : List GivenOption → List ℕ → Name
name_asked os domain = in_lower_case (record {
  campaign = value_of (codes "--campaign") os;
  tenant = value_of (codes "--tenant") os;
  domain = domain;
})

abbrev pub question_about : List GivenOption → Name → Question
question_about os name = record {
  texts = texts_of os;
  name = name;
  source = unwrap_or (value_of (codes "--source") os) unspecified;
}

abbrev pub question_if_name : List GivenOption → Name → Option Command
question_if_name os name = if is_name name then Some (explain (question_about os name)) else None

-- a moment, where the option is given; none where its value is no moment
abbrev pub given_moment : Option (List ℕ) → Option (Option ℕ)
given_moment None = Some None
given_moment (Some text) = option_map (λ m. Some m) (number_in 0 latest_moment text)

abbrev pub sending_of : List GivenOption → List ℕ → Option ℕ → Option ℕ → Sending
sending_of os mail until start = record {
  mail = mail;
  texts = texts_of os;
  peers = value_of (codes "--peers") os;
  orders = value_of (codes "--orders") os;
  until = until;
  start = start;
  spool = value_of (codes "--spool") os;
}

unfoldable pub sending_in : List GivenOption → Option Sending
sending_in os =
    option_and_then (λ mail.
    option_and_then (λ until.
    option_map (λ start. sending_of os mail until start)
    (given_moment (value_of (codes "--start") os)))
    (given_moment (value_of (codes "--until") os)))
    (value_of (codes "--mail") os)

unfoldable pub workers_in : List GivenOption → Option ℕ
workers_in os = option_and_then (number_in 1 greatest_workers) (value_of (codes "--workers") os)

unfoldable pub load_in : List GivenOption → Option Command
load_in os =
    option_and_then (λ seed.
    option_map (load seed) (option_and_then (number_in 1 greatest_load) (value_of (codes "--count") os)))
    (option_and_then (number_in 0 (2 ^ 64 - 1)) (value_of (codes "--seed") os))

unfoldable pub question_in : List GivenOption → Option Command
question_in os = option_and_then (λ domain. question_if_name os (name_asked os domain)) (value_of (codes "--domain") os)

unfoldable pub crew_in : List GivenOption → Option Command
crew_in os = option_and_then (λ sending. option_map (crew sending) (workers_in os)) (sending_in os)

-- a command of the options, where these are all that it may have
abbrev pub if_allowed : List (List ℕ) → List GivenOption → Option Command → Option Command
if_allowed names os command = if are_allowed names os then command else None

-- by the first word
unfoldable pub command_with : List ℕ → List GivenOption → Option Command
command_with word os =
    if bytes_eq word (codes "check") then if_allowed names_of_texts os (Some (check (texts_of os)))
    else if bytes_eq word (codes "explain") then if_allowed names_of_question os (question_in os)
    else if bytes_eq word (codes "spool") then if_allowed (codes "--spool" ∷ []) os (Some (spool (value_of (codes "--spool") os)))
    else if bytes_eq word (codes "send") then if_allowed names_of_sending os (option_map send (sending_in os))
    else if bytes_eq word (codes "crew") then if_allowed names_of_crew os (crew_in os)
    else if bytes_eq word (codes "load") then if_allowed names_of_load os (load_in os)
    else None

-- the command that words are, if they are one
unfoldable pub command_of : List (List ℕ) → Option Command
command_of [] = None
command_of (word ∷ more) = option_and_then (command_with word) (options_in more)

-- a question is about a name that a queue may have
abbrev pub IsNamed : Command → Type 0
IsNamed (check texts) = ⊤
IsNamed (explain question) = IsTrue (is_name question.name)
IsNamed (spool folder) = ⊤
IsNamed (send sending) = ⊤
IsNamed (crew sending workers) = ⊤
IsNamed (load seed count) = ⊤
