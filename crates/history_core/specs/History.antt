-- A history is a list of entries, the oldest first: its messages, and the paths that they were promoted to.
use Rattle.std.specs.Prelude.{ℕ, ◌==◌, List, [], ◌∷◌, ◌++◌, length, Bool, ◌&&◌, Option, option_map, option_and_then, option_to_list, position, find, filter_map, fold, bytes_eq, if◌then◌else◌}
use Rattle.std.specs.List.{list_any}
use Rattle.queue_name.specs.declared.message.Message.{Message}
use Rattle.policy_core.specs.Policy.{Policy}
use Rattle.policy_core.specs.PathTables.{path_text}
use Rattle.policy_core.specs.Site.{site_of, is_same_site}
use Rattle.history_core.specs.declared.entry.Entry.{Entry}
use Rattle.history_core.specs.declared.path.Path.{Path}
use Rattle.history_core.specs.declared.path.Promoted.{Promoted}
use Rattle.history_core.specs.Events.{message_in, promotion_in, is_stopped}

-- what items add up to, where each adds something by those before it
abbrev pub along_from : {E A : Type 0} → (List E → E → List A) → List E → List E → List A
along_from add before [] = []
along_from add before (e ∷ later) = add before e ++ along_from add (before ++ e ∷ []) later

abbrev pub along : {E A : Type 0} → (List E → E → List A) → List E → List A
along add items = along_from add [] items

-- the messages that were recovered or accepted, in order
abbrev pub messages : List Entry → List Message
messages h = filter_map (λ e. message_in e.what) h

abbrev pub has_id : ℕ → Message → Bool
has_id id m = m.id == id

abbrev pub message_with : List Entry → ℕ → Option Message
message_with h id = find (has_id id) (messages h)

-- the number of a message: its place among these, from 0
abbrev pub number_of : List Entry → ℕ → Option ℕ
number_of h id = position (has_id id) (messages h)

abbrev pub has_stopped : List Entry → Bool
has_stopped h = list_any (λ e. is_stopped e.what) h

-- the moment of the last entry, 0 before the first
abbrev pub last_moment : List Entry → ℕ
last_moment h = fold (λ was e. e.at) 0 h

-- the path of a message from a source: the site is that of the message's domain
abbrev pub path_for : Policy → Message → List ℕ → Path
path_for policy m source = record { source = source; site = site_of policy m.name.domain }

-- the text by which a path is printed and named
abbrev pub text_of : Path → List ℕ
text_of p = path_text p.source p.site.name

abbrev pub is_same_path : Path → Path → Bool
is_same_path p q = bytes_eq p.source q.source && is_same_site p.site q.site

-- the message that an entry promotes
abbrev pub promoted_at : Policy → List Entry → Entry → List Promoted
promoted_at policy before e = option_to_list (option_and_then (λ p.
    option_map (λ m. record { place = length before; id = p.id; path = path_for policy m p.source }) (message_with before p.id))
    (promotion_in e.what))

abbrev pub promotions : Policy → List Entry → List Promoted
promotions policy h = along (promoted_at policy) h

-- a path comes at the end, where it is not there yet
abbrev pub with_path : List Path → Path → List Path
with_path seen p = if list_any (is_same_path p) seen then seen else seen ++ p ∷ []

-- the paths that messages were promoted to, in order of their first promotion: a path's number is its place, from 0
abbrev pub paths : Policy → List Entry → List Path
paths policy h = fold (λ seen p. with_path seen p.path) [] (promotions policy h)

-- the path of a text
abbrev pub path_named : Policy → List Entry → List ℕ → Option Path
path_named policy h text = find (λ p. bytes_eq (text_of p) text) (paths policy h)
