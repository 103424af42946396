-- What is written of a proper message is read as that message.
use Rattle.std.proofs.Common.{◌≡◌, ℕ, zero, suc, ◌+◌, ◌-◌, ◌^◌, ◌<◌, ◌≤◌, ◌==◌, List, [], ◌∷◌, ◌++◌, Bool, true, false, cond, ◌||◌, ◌⊎◌, Option, Some, None, option_and_then, is_some, Result, Ok, Err, All, IsTrue, length, get_or, IsUtf8, inl, inr, refl, sym, ap, subst, ◌∙◌, arith, append_assoc, append-nil}
use Rattle.std.specs.Prelude.{flat_map, ⊤}
use Rattle.std.specs.List.{list_all, slice_split, onto_first}
use Rattle.std.specs.Str.{is_utf8}
use Rattle.std.specs.Str.Lines.{lines, lines_of_parts, strip_carriage_return}
use Rattle.std.proofs.lemmas.Bool.{and_parts, or_parts, or_from, not-true, le-leb, lt-leb, ne_eqb, eqb-false}
use Rattle.std.proofs.lemmas.List.{get_or_push, length-append}
use Rattle.std.proofs.lemmas.List.Folds.{list_any-append}
use Rattle.std.proofs.lemmas.List.Splits.{slice_split-cons_no, length-slice_split}
use Rattle.std.proofs.lemmas.Str.{IsUtf8-append, is_utf8-from_IsUtf8}
use Rattle.json.proofs.Printed.Utf8.{IsUtf8-are_ascii}
use Rattle.serde_json.specs.Data.{Data}
use Rattle.serde_json.specs.Find.{as_object}
use Rattle.serde_json.specs.Read.{read}
use Rattle.kumo_base.specs.Lines.{numbered_from}
use Rattle.kumo_base.specs.Limits.{latest_moment}
use Rattle.queue_name.specs.Address.{is_address, domain_of}
use Rattle.queue_name.specs.QueueName.{Name, is_name}
use Rattle.queue_name.specs.Limits.{body_limit}
use Rattle.queue_name.specs.Message.{IsProperMessage}
use Rattle.queue_name.specs.declared.message.Message.{Message}
use Rattle.json_members.specs.Members.{id_text}
use Rattle.json_members.proofs.IdLemmas.{id_is_read, id_is_utf8}
use Rattle.mail_input.specs.Limits.{message_limit}
use Rattle.mail_input.specs.declared.MailWhy.{MailWhy}
use Rattle.mail_input.specs.declared.MailWhy.TheVariants.{TooMany, NotJson, BadId, BadMoment, BadAddress, BadName, TooLong, Duplicate}
use Rattle.mail_input.specs.Fields.{required, kept_if, then_read, object_in, id_in, created_in, sender_in, recipient_in, name_in, body_in, message_of, line_of}
use Rattle.mail_input.specs.Inputs.{messages, has_id, with_message, with_line, then_on, mail_from, mail_of}
use Rattle.mail_input.specs.MailLine.{mail_object, mail_text_of, mail_line_of, IsInUtf8, have_distinct_ids}
use Rattle.mail_input.proofs.WrittenLemmas.{members_of_parts, parts}
use Rattle.mail_input.proofs.TextLemmas.{read_parts, is_no_feed, ArePlain, plain_parts, object_utf8, object_no_feed, object_end}

-- ---- the fields of the object, one by one

id_read : (campaign tenant : Option (List ℕ)) (body : List ℕ) (created id : ℕ) (recipient sender : List ℕ) → id < 2 ^ 128
    → id_in (parts campaign tenant body created (id_text id) recipient sender) ≡ Ok id
id_read None None body created id recipient sender h = ap (λ (o : Option ℕ). required BadId o) (id_is_read id h)
id_read None (Some t) body created id recipient sender h = ap (λ (o : Option ℕ). required BadId o) (id_is_read id h)
id_read (Some c) None body created id recipient sender h = ap (λ (o : Option ℕ). required BadId o) (id_is_read id h)
id_read (Some c) (Some t) body created id recipient sender h = ap (λ (o : Option ℕ). required BadId o) (id_is_read id h)

created_read : (campaign tenant : Option (List ℕ)) (body : List ℕ) (created id : ℕ) (recipient sender : List ℕ) → created ≤ latest_moment
    → created_in (parts campaign tenant body created (id_text id) recipient sender) ≡ Ok created
created_read None None body created id recipient sender h = ap (λ (b : Bool). required BadMoment (cond b (Some created) None)) (le-leb created latest_moment h)
created_read None (Some t) body created id recipient sender h = ap (λ (b : Bool). required BadMoment (cond b (Some created) None)) (le-leb created latest_moment h)
created_read (Some c) None body created id recipient sender h = ap (λ (b : Bool). required BadMoment (cond b (Some created) None)) (le-leb created latest_moment h)
created_read (Some c) (Some t) body created id recipient sender h = ap (λ (b : Bool). required BadMoment (cond b (Some created) None)) (le-leb created latest_moment h)

sender_read : (campaign tenant : Option (List ℕ)) (body : List ℕ) (created id : ℕ) (recipient sender : List ℕ) → (length sender == 0 || is_address sender) ≡ true
    → sender_in (parts campaign tenant body created (id_text id) recipient sender) ≡ Ok sender
sender_read None None body created id recipient sender h = ap (λ (b : Bool). kept_if b BadAddress sender) h
sender_read None (Some t) body created id recipient sender h = ap (λ (b : Bool). kept_if b BadAddress sender) h
sender_read (Some c) None body created id recipient sender h = ap (λ (b : Bool). kept_if b BadAddress sender) h
sender_read (Some c) (Some t) body created id recipient sender h = ap (λ (b : Bool). kept_if b BadAddress sender) h

recipient_read : (campaign tenant : Option (List ℕ)) (body : List ℕ) (created id : ℕ) (recipient sender : List ℕ) → is_address recipient ≡ true
    → recipient_in (parts campaign tenant body created (id_text id) recipient sender) ≡ Ok recipient
recipient_read None None body created id recipient sender h = ap (λ (b : Bool). kept_if b BadAddress recipient) h
recipient_read None (Some t) body created id recipient sender h = ap (λ (b : Bool). kept_if b BadAddress recipient) h
recipient_read (Some c) None body created id recipient sender h = ap (λ (b : Bool). kept_if b BadAddress recipient) h
recipient_read (Some c) (Some t) body created id recipient sender h = ap (λ (b : Bool). kept_if b BadAddress recipient) h

abbrev named : Option (List ℕ) → Option (List ℕ) → List ℕ → Name
named campaign tenant domain = record { campaign = campaign; tenant = tenant; domain = domain }

name_read : (campaign tenant : Option (List ℕ)) (body : List ℕ) (created id : ℕ) (recipient sender : List ℕ) → is_name (named campaign tenant (domain_of recipient)) ≡ true
    → name_in (parts campaign tenant body created (id_text id) recipient sender) recipient ≡ Ok (named campaign tenant (domain_of recipient))
name_read None None body created id recipient sender h = ap (λ (b : Bool). kept_if b BadName (named None None (domain_of recipient))) h
name_read None (Some t) body created id recipient sender h = ap (λ (b : Bool). kept_if b BadName (named None (Some t) (domain_of recipient))) h
name_read (Some c) None body created id recipient sender h = ap (λ (b : Bool). kept_if b BadName (named (Some c) None (domain_of recipient))) h
name_read (Some c) (Some t) body created id recipient sender h = ap (λ (b : Bool). kept_if b BadName (named (Some c) (Some t) (domain_of recipient))) h

body_read : (campaign tenant : Option (List ℕ)) (body : List ℕ) (created id : ℕ) (recipient sender : List ℕ) → length body ≤ body_limit
    → body_in (parts campaign tenant body created (id_text id) recipient sender) ≡ Ok body
body_read None None body created id recipient sender h = ap (λ (b : Bool). kept_if b TooLong body) (le-leb (length body) body_limit h)
body_read None (Some t) body created id recipient sender h = ap (λ (b : Bool). kept_if b TooLong body) (le-leb (length body) body_limit h)
body_read (Some c) None body created id recipient sender h = ap (λ (b : Bool). kept_if b TooLong body) (le-leb (length body) body_limit h)
body_read (Some c) (Some t) body created id recipient sender h = ap (λ (b : Bool). kept_if b TooLong body) (le-leb (length body) body_limit h)

-- an object is read as the message whose fields it has
message_read : (d : Data) (m : Message) → id_in d ≡ Ok m.id → created_in d ≡ Ok m.created → sender_in d ≡ Ok m.sender
    → recipient_in d ≡ Ok m.recipient → name_in d m.recipient ≡ Ok m.name → body_in d ≡ Ok m.body → message_of d ≡ Ok m
unfolding message_of
message_read d m id created sender recipient name body = rw (id, created, sender, recipient, name, body) refl

-- ---- a proper message

domain_is : (m : Message) → IsProperMessage m → named m.name.campaign m.name.tenant (domain_of m.recipient) ≡ m.name
domain_is m proper = ap (named m.name.campaign m.name.tenant) (sym proper.domain)

sender_test : (sender : List ℕ) → (sender ≡ []) ⊎ IsTrue (is_address sender) → (length sender == 0 || is_address sender) ≡ true
sender_test sender (inl none) = rw none refl
sender_test [] (inr is) = refl
sender_test (x ∷ xs) (inr is) = rw (ne_eqb (length (x ∷ xs)) 0 (λ e. omega arith)) is

object_read : (m : Message) → IsProperMessage m → message_of (mail_object m) ≡ Ok m
unfolding mail_object
object_read m proper =
    let c = m.name.campaign in
    let t = m.name.tenant in
    let same = domain_is m proper in
    let name = subst (λ (n : Name). is_name n ≡ true) (sym same) proper.name in
    message_read (parts c t m.body m.created (id_text m.id) m.recipient m.sender) m
    (id_read c t m.body m.created m.id m.recipient m.sender proper.id)
    (created_read c t m.body m.created m.id m.recipient m.sender proper.created)
    (sender_read c t m.body m.created m.id m.recipient m.sender (sender_test m.sender proper.sender))
    (recipient_read c t m.body m.created m.id m.recipient m.sender proper.recipient)
    (name_read c t m.body m.created m.id m.recipient m.sender name ∙ ap (λ (n : Name). Ok n) same)
    (body_read c t m.body m.created m.id m.recipient m.sender proper.body)

-- ---- the text of the object, and the line

mail_plain : (m : Message) → m.created < 2 ^ 64 → IsInUtf8 m → ArePlain (members_of_parts m.name.campaign m.name.tenant m.body m.created (id_text m.id) m.recipient m.sender)
mail_plain m small texts =
    plain_parts m.name.campaign m.name.tenant m.body m.created (id_text m.id) m.recipient m.sender
    texts.campaign texts.tenant texts.body small (id_is_utf8 m.id) texts.recipient texts.sender

text_utf8 : (m : Message) → m.created < 2 ^ 64 → IsInUtf8 m → IsUtf8 (mail_text_of m)
unfolding mail_text_of mail_object
text_utf8 m small texts = object_utf8 (members_of_parts m.name.campaign m.name.tenant m.body m.created (id_text m.id) m.recipient m.sender) (mail_plain m small texts)

text_no_feed : (m : Message) → m.created < 2 ^ 64 → IsInUtf8 m → list_all is_no_feed (mail_text_of m) ≡ true
unfolding mail_text_of mail_object
text_no_feed m small texts = object_no_feed (members_of_parts m.name.campaign m.name.tenant m.body m.created (id_text m.id) m.recipient m.sender) (mail_plain m small texts)

text_end : (m : Message) → (front : List ℕ) × (mail_text_of m ≡ front ++ 125 ∷ [])
unfolding mail_text_of mail_object
text_end m = object_end (members_of_parts m.name.campaign m.name.tenant m.body m.created (id_text m.id) m.recipient m.sender)

text_some : (m : Message) → (length (mail_text_of m) == 0) ≡ false
text_some m =
    let e = text_end m in
    ne_eqb (length (mail_text_of m)) 0 (λ none. omega (arith, ap length e.1, length-append e.0 (125 ∷ [])))

line_is : (m : Message) → mail_line_of m ≡ mail_text_of m ++ 10 ∷ []
unfolding mail_text_of mail_line_of
line_is m = refl

pub line_utf8 : (m : Message) → m.created < 2 ^ 64 → IsInUtf8 m → IsTrue (is_utf8 (mail_line_of m))
line_utf8 m small texts =
    let whole = IsUtf8-append (mail_text_of m) (10 ∷ []) (text_utf8 m small texts) (IsUtf8-are_ascii (10 ∷ []) refl) in
    is_utf8-from_IsUtf8 _ (subst IsUtf8 (sym (line_is m)) whole)

text_is_object : (m : Message) → m.created < 2 ^ 64 → read (mail_text_of m) ≡ Some (mail_object m)
unfolding mail_text_of mail_object
text_is_object m small = read_parts m.name.campaign m.name.tenant m.body m.created (id_text m.id) m.recipient m.sender small

is_object : (m : Message) → is_some (as_object (mail_object m)) ≡ true
unfolding mail_object
is_object m = refl

object_in_text : (m : Message) → m.created < 2 ^ 64 → IsInUtf8 m → object_in (mail_text_of m) ≡ Ok (mail_object m)
unfolding object_in
object_in_text m small texts =
    let only_object : Data → Option Data = λ d. cond (is_some (as_object d)) (Some d) None in
    ap (λ (b : Bool). required NotJson (option_and_then only_object (option_and_then read (cond b (Some (mail_text_of m)) None))))
    (is_utf8-from_IsUtf8 _ (text_utf8 m small texts))
    ∙ ap (λ (o : Option Data). required NotJson (option_and_then only_object o)) (text_is_object m small)
    ∙ ap (λ (b : Bool). required NotJson (cond b (Some (mail_object m)) None)) (is_object m)

pub line_read : (m : Message) → IsProperMessage m → IsInUtf8 m → line_of (mail_text_of m) ≡ Ok m
unfolding line_of
line_read m proper texts =
    let created = proper.created in
    ap (λ (r : Result Data MailWhy). then_read r message_of) (object_in_text m (omega arith) texts) ∙ object_read m proper

-- ---- the lines of a text

abbrev is_feed : ℕ → Bool
is_feed b = b == 10

split_here : (text rest : List ℕ) → list_all is_no_feed text ≡ true → slice_split is_feed (text ++ 10 ∷ rest) ≡ text ∷ slice_split is_feed rest
split_here [] rest h = refl
split_here (x ∷ xs) rest h =
    let p = and_parts _ _ h in
    slice_split-cons_no is_feed x (xs ++ 10 ∷ rest) (not-true _ p.0) ∙ ap (onto_first x) (split_here xs rest p.1)

parts_go_on : (x : List ℕ) (more : List (List ℕ)) → 0 < length more → lines_of_parts (x ∷ more) ≡ strip_carriage_return x ∷ lines_of_parts more
parts_go_on x [] some = absurd (omega arith)
parts_go_on x (y ∷ more) some = refl

strip_keeps : (front : List ℕ) → strip_carriage_return (front ++ 125 ∷ []) ≡ front ++ 125 ∷ []
strip_keeps front =
    let last : get_or (front ++ 125 ∷ []) (length (front ++ 125 ∷ []) - 1) 0 ≡ 125 =
    get_or_push front 125 0 _ (omega (arith, length-append front (125 ∷ []))) in
    rw last refl

strip_text : (text front : List ℕ) → text ≡ front ++ 125 ∷ [] → strip_carriage_return text ≡ text
strip_text text front e = subst (λ (t : List ℕ). strip_carriage_return t ≡ t) (sym e) (strip_keeps front)

first_line : (text rest front : List ℕ) → list_all is_no_feed text ≡ true → text ≡ front ++ 125 ∷ [] → lines (text ++ 10 ∷ rest) ≡ text ∷ lines rest
first_line text rest front h e =
    ap lines_of_parts (split_here text rest h)
    ∙ parts_go_on text (slice_split is_feed rest) (omega (arith, length-slice_split is_feed rest))
    ∙ ap (λ (t : List ℕ). t ∷ lines rest) (strip_text text front e)

numbered : (n : ℕ) (m : Message) (rest : List ℕ) → m.created < 2 ^ 64 → IsInUtf8 m
    → numbered_from n (lines (mail_line_of m ++ rest)) ≡ (n, mail_text_of m) ∷ numbered_from (n + 1) (lines rest)
numbered n m rest small texts =
    let text = mail_text_of m in
    let e = text_end m in
    let whole : mail_line_of m ++ rest ≡ text ++ 10 ∷ rest = ap (λ (l : List ℕ). l ++ rest) (line_is m) ∙ append_assoc text (10 ∷ []) rest in
    ap (λ (l : List ℕ). numbered_from n (lines l)) whole
    ∙ ap (numbered_from n) (first_line text rest e.0 (text_no_feed m small texts) e.1)
    ∙ ap (λ (b : Bool). cond b (numbered_from (n + 1) (lines rest)) ((n, text) ∷ numbered_from (n + 1) (lines rest))) (text_some m)

-- ---- the messages of a text

-- none of these has the id of one that was read
abbrev AreNew : List Message → List Message → Type 0
AreNew done [] = ⊤
AreNew done (m ∷ ms) = (has_id m.id done ≡ false) × AreNew done ms

new_more : (done : List Message) (m : Message) (ms : List Message) → AreNew done ms → has_id m.id ms ≡ false → AreNew (done ++ m ∷ []) ms
new_more done m [] new other = tt
new_more done m (x ∷ ms) new other =
    let p = or_parts _ _ other in
    let differs : (m.id == x.id) ≡ false = ne_eqb m.id x.id (λ e. eqb-false x.id m.id p.0 (sym e)) in
    let none : has_id x.id (done ++ m ∷ []) ≡ false = list_any-append (λ (y : Message). y.id == x.id) done (m ∷ []) ∙ or_from _ _ new.0 (or_from _ _ differs refl) in
    (none, new_more done m ms new.1 p.1)

with_line_read : (done : List Message) (m : Message) → length done < message_limit → IsProperMessage m → IsInUtf8 m → has_id m.id done ≡ false
    → with_line done (mail_text_of m) ≡ Ok (done ++ m ∷ [])
unfolding with_line with_message
with_line_read done m room proper texts new =
    ap (λ (b : Bool). cond b (Err TooMany) (then_read (line_of (mail_text_of m)) (with_message done))) (lt-leb message_limit (length done) room)
    ∙ ap (λ (r : Result Message MailWhy). then_read r (with_message done)) (line_read m proper texts)
    ∙ ap (λ (b : Bool). cond b (Err Duplicate) (Ok (done ++ m ∷ []))) new

go_on : (n : ℕ) (r : Result (List Message) MailWhy) (done : List Message) (more : List (ℕ × List ℕ)) → r ≡ Ok done → then_on n r (λ all. mail_from all more) ≡ mail_from done more
go_on n r done more e = ap (λ (x : Result (List Message) MailWhy). then_on n x (λ all. mail_from all more)) e

lines_read : (n : ℕ) (done ms : List Message) → All IsProperMessage ms → All IsInUtf8 ms → length done + length ms ≤ message_limit
    → AreNew done ms → have_distinct_ids ms ≡ true
    → mail_from done (numbered_from n (lines (flat_map mail_line_of ms))) ≡ messages (done ++ ms)
lines_read n done [] proper texts room new distinct = ap messages (sym (append-nil done))
lines_read n done (m ∷ ms) proper texts room new distinct =
    let good : IsProperMessage m = proper 0 m (omega arith) in
    let text : IsInUtf8 m = texts 0 m (omega arith) in
    let created = good.created in
    let p = and_parts _ _ distinct in
    let more = numbered_from (n + 1) (lines (flat_map mail_line_of ms)) in
    let next = lines_read (n + 1) (done ++ m ∷ []) ms (λ k d h. proper (suc k) d (omega arith)) (λ k d h. texts (suc k) d (omega arith))
    (omega (arith, length-append done (m ∷ []))) (new_more done m ms new.1 (not-true _ p.0)) p.1 in
    ap (mail_from done) (numbered n m (flat_map mail_line_of ms) (omega arith) text)
    ∙ go_on n _ (done ++ m ∷ []) more (with_line_read done m (omega arith) good text new.0)
    ∙ next ∙ ap messages (append_assoc done (m ∷ []) ms)

all_new : (ms : List Message) → AreNew [] ms
all_new [] = tt
all_new (m ∷ ms) = (refl, all_new ms)

pub mail_read : (ms : List Message) → All IsProperMessage ms → All IsInUtf8 ms → length ms ≤ message_limit → have_distinct_ids ms ≡ true
    → mail_of (flat_map mail_line_of ms) ≡ messages ms
unfolding mail_of
mail_read ms proper texts room distinct = lines_read 1 [] ms proper texts (omega arith) (all_new ms) distinct

one_of : (P : Message → Type 0) (m : Message) → P m → All P (m ∷ [])
one_of P m p zero d h = p
one_of P m p (suc k) d h = absurd (omega arith)

-- one message
pub mail_read_one : (m : Message) → IsProperMessage m → IsInUtf8 m → mail_of (mail_line_of m) ≡ messages (m ∷ [])
mail_read_one m proper texts =
    ap mail_of (sym (append-nil (mail_line_of m)))
    ∙ mail_read (m ∷ []) (one_of IsProperMessage m proper) (one_of IsInUtf8 m texts) (omega arith) refl
