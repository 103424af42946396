-- What commands of the program say.
use Rattle.std.specs.Prelude.{option_map}
use Rattle.queue_name.specs.QueueName.{in_lower_case}
use Rattle.queue_name.specs.NameParts.{name_of}
use Rattle.command_words.specs.declared.names.PolicyNames.{PolicyNames as PolicyNameWords}
use Rattle.command_words.specs.declared.command.Question.{Question as QuestionWords}
use Rattle.command_words.specs.declared.command.Sending.{Sending as SendingWords}
use Rattle.command_words.specs.declared.command.Command.{Command as Words}
use Rattle.command_words.specs.declared.command.Command.TheVariants as words
use Rattle.command_words.specs.Commands.{PolicyNames, Question, Sending, Command, check, explain, spool, send, crew, load}

abbrev pub seen_names : PolicyNameWords → PolicyNames
seen_names n = record {
  sources = option_map (λ s. s.now) n.sources;
  queues = option_map (λ s. s.now) n.queues;
  shaping = option_map (λ s. s.now) n.shaping;
  mx = option_map (λ s. s.now) n.mx;
}

-- the domain counts in lower case
abbrev pub seen_question : QuestionWords → Question
seen_question a = record {
  texts = seen_names a.texts;
  name = in_lower_case (name_of a.parts);
  source = a.source.now;
}

abbrev pub seen_sending : SendingWords → Sending
seen_sending s = record {
  mail = s.mail.now;
  texts = seen_names s.texts;
  peers = option_map (λ t. t.now) s.peers;
  orders = option_map (λ t. t.now) s.orders;
  until = s.until;
  start = s.start;
  spool = option_map (λ t. t.now) s.spool;
}

abbrev pub read_as : Words → Command
read_as (words.Check texts) = check (seen_names texts)
read_as (words.Explain asked) = explain (seen_question asked)
read_as (words.Spool folder) = spool (option_map (λ t. t.now) folder)
read_as (words.Send sending) = send (seen_sending sending)
read_as (words.Crew sending workers) = crew (seen_sending sending) workers
read_as (words.Load seed count) = load seed count
