-- The text of a written object: it is read as the object, is UTF-8, has no line feed, and ends with its brace.
use Rattle.std.proofs.Common.{◌≡◌, ℕ, zero, suc, ◌^◌, ◌<◌, ◌≤◌, ◌==◌, List, [], ◌∷◌, ◌++◌, Bool, true, false, not, ◌&&◌, Option, Some, None, option_and_then, IsTrue, length, get_or, IsUtf8, inl, inr, codes, decimal, refl, sym, ap, ◌∙◌, arith, append_assoc, append-nil}
use Rattle.std.specs.Prelude.{IfSome, ⊤}
use Rattle.std.specs.List.{list_all}
use Rattle.std.specs.Str.{is_utf8}
use Rattle.std.proofs.lemmas.Bool.{cases_lt, cases_eq, and_parts, and_from, ne_eqb, lt-ltb}
use Rattle.std.proofs.lemmas.Fmt.{decimal_is_IsNumeral}
use Rattle.std.proofs.lemmas.List.Folds.{list_all-append}
use Rattle.std.proofs.lemmas.Str.{IsUtf8-append, IsUtf8-from_is_utf8}
use Rattle.std.proofs.lemmas.Str.Parse.{digit_at}
use Rattle.json.specs.Json.{if_last, value}
use Rattle.json.specs.Lex.{tokens}
use Rattle.json.specs.Print.{escape_byte, escape, quoted}
use Rattle.json.specs.Tree.{json_tokens, HasNumbers}
use Rattle.json.specs.Tree as tree
use Rattle.json.proofs.Printed.Decimals.{IsNumber-decimal}
use Rattle.json.proofs.Printed.Strings.{escape_byte_plain}
use Rattle.json.proofs.Printed.Tokens.{tokens-print}
use Rattle.json.proofs.Printed.Trees.{value-json_tokens, ArePrintable-json_tokens}
use Rattle.json.proofs.Printed.Utf8.{are_ascii, IsUtf8-are_ascii, IsUtf8-quoted}
use Rattle.serde_json.specs.Data.{Data, string, Members, member, no_members}
use Rattle.serde_json.specs.Read.{read, of_json, max_depth}
use Rattle.serde_json.specs.Written.{outline, comma_if, compact_text, members_text}
use Rattle.serde_json.proofs.Numbers.{number_of-decimal}
use Rattle.serde_json.proofs.Texts.{print-outline}
use Rattle.json_members.specs.Members.{whole_number, given_member}
use Rattle.mail_input.proofs.WrittenLemmas.{members_of_parts, parts}

-- ---- it is read as the object

document_read : (d : Data) → HasNumbers (outline d) → tree.depth (outline d) ≤ max_depth
    → option_and_then (λ p. if_last p.0 p.1) (value max_depth (tokens (compact_text d))) ≡ Some (outline d)
document_read d numbers shallow =
    let same = ap tokens (sym (print-outline d)) ∙ tokens-print (json_tokens (outline d)) (ArePrintable-json_tokens (outline d) numbers) in
    ap (option_and_then (λ p. if_last p.0 p.1))
    (ap (value max_depth) (same ∙ sym (append-nil (json_tokens (outline d)))) ∙ value-json_tokens (outline d) max_depth [] shallow)

of_json_parts : (campaign tenant : Option (List ℕ)) (body : List ℕ) (created : ℕ) (id recipient sender : List ℕ) → created < 2 ^ 64
    → of_json (outline (parts campaign tenant body created id recipient sender)) ≡ Some (parts campaign tenant body created id recipient sender)
of_json_parts None None body created id recipient sender small = rw (number_of-decimal created small) refl
of_json_parts None (Some t) body created id recipient sender small = rw (number_of-decimal created small) refl
of_json_parts (Some c) None body created id recipient sender small = rw (number_of-decimal created small) refl
of_json_parts (Some c) (Some t) body created id recipient sender small = rw (number_of-decimal created small) refl

has_numbers : (campaign tenant : Option (List ℕ)) (body : List ℕ) (created : ℕ) (id recipient sender : List ℕ) → created < 2 ^ 64
    → HasNumbers (outline (parts campaign tenant body created id recipient sender))
has_numbers None None body created id recipient sender small = (tt, (IsNumber-decimal created small, (tt, (tt, (tt, tt)))))
has_numbers None (Some t) body created id recipient sender small = (tt, (IsNumber-decimal created small, (tt, (tt, (tt, (tt, tt))))))
has_numbers (Some c) None body created id recipient sender small = (tt, (tt, (IsNumber-decimal created small, (tt, (tt, (tt, tt))))))
has_numbers (Some c) (Some t) body created id recipient sender small = (tt, (tt, (IsNumber-decimal created small, (tt, (tt, (tt, (tt, tt)))))))

is_shallow : (campaign tenant : Option (List ℕ)) (body : List ℕ) (created : ℕ) (id recipient sender : List ℕ)
    → tree.depth (outline (parts campaign tenant body created id recipient sender)) ≤ max_depth
is_shallow None None body created id recipient sender = omega arith
is_shallow None (Some t) body created id recipient sender = omega arith
is_shallow (Some c) None body created id recipient sender = omega arith
is_shallow (Some c) (Some t) body created id recipient sender = omega arith

pub read_parts : (campaign tenant : Option (List ℕ)) (body : List ℕ) (created : ℕ) (id recipient sender : List ℕ) → created < 2 ^ 64
    → read (compact_text (parts campaign tenant body created id recipient sender)) ≡ Some (parts campaign tenant body created id recipient sender)
read_parts campaign tenant body created id recipient sender small =
    let numbers = has_numbers campaign tenant body created id recipient sender small in
    let shallow = is_shallow campaign tenant body created id recipient sender in
    ap (option_and_then of_json) (document_read (parts campaign tenant body created id recipient sender) numbers shallow)
    ∙ of_json_parts campaign tenant body created id recipient sender small

-- ---- no line feed

abbrev pub is_no_feed : ℕ → Bool
is_no_feed b = not (b == 10)

no_feed-append : (xs ys : List ℕ) → list_all is_no_feed xs ≡ true → list_all is_no_feed ys ≡ true → list_all is_no_feed (xs ++ ys) ≡ true
no_feed-append xs ys p q = list_all-append is_no_feed xs ys ∙ and_from _ _ p q

-- the escapes of the bytes below n have none
abbrev escapes_below : ℕ → Bool
escapes_below zero = true
escapes_below (suc n) = list_all is_no_feed (escape_byte n) && escapes_below n

escape_below : (n : ℕ) → escapes_below n ≡ true → (x : ℕ) → x < n → list_all is_no_feed (escape_byte x) ≡ true
escape_below zero e x h = absurd (omega arith)
escape_below (suc n) e x h =
    let p = and_parts _ _ e in
    elim (cases_eq x n) [ inl same ↦ rw same p.0 | inr other ↦ escape_below n p.1 x (omega arith) ]

all_below : escapes_below 128 ≡ true
unfolding escape_byte
all_below = refl

escape_byte_no_feed : (x : ℕ) → list_all is_no_feed (escape_byte x) ≡ true
escape_byte_no_feed x = elim (cases_lt x 128) [
  | inl small ↦ escape_below 128 all_below x small
  | inr big ↦ rw (escape_byte_plain x (λ e. omega arith) (λ e. omega arith) (omega arith), ne_eqb x 10 (λ e. omega arith)) refl
]

escape_no_feed : (s : List ℕ) → list_all is_no_feed (escape s) ≡ true
escape_no_feed [] = refl
escape_no_feed (x ∷ xs) = no_feed-append (escape_byte x) (escape xs) (escape_byte_no_feed x) (escape_no_feed xs)

quoted_no_feed : (s : List ℕ) → list_all is_no_feed (quoted s) ≡ true
quoted_no_feed s = no_feed-append (escape s) (34 ∷ []) (escape_no_feed s) refl

-- ---- the members

-- each key and each value is UTF-8 as it is printed, and has no line feed
abbrev pub ArePlain : Members → Type 0
ArePlain no_members = ⊤
ArePlain (member k d ms) = IsUtf8 k × (IsUtf8 (compact_text d) × ((list_all is_no_feed (compact_text d) ≡ true) × ArePlain ms))

members_no_feed : (later : Bool) (ms : Members) → ArePlain ms → list_all is_no_feed (members_text later ms) ≡ true
members_no_feed true no_members h = refl
members_no_feed false no_members h = refl
members_no_feed true (member k d ms) h =
    no_feed-append (quoted k) (58 ∷ (compact_text d ++ members_text true ms)) (quoted_no_feed k)
    (no_feed-append (compact_text d) (members_text true ms) h.1.1.0 (members_no_feed true ms h.1.1.1))
members_no_feed false (member k d ms) h =
    no_feed-append (quoted k) (58 ∷ (compact_text d ++ members_text true ms)) (quoted_no_feed k)
    (no_feed-append (compact_text d) (members_text true ms) h.1.1.0 (members_no_feed true ms h.1.1.1))

comma_utf8 : (later : Bool) → IsUtf8 (comma_if later)
comma_utf8 true = IsUtf8-are_ascii (44 ∷ []) refl
comma_utf8 false = IsUtf8-are_ascii [] refl

members_utf8 : (later : Bool) (ms : Members) → ArePlain ms → IsUtf8 (members_text later ms)
members_utf8 later no_members h = IsUtf8-are_ascii (125 ∷ []) refl
members_utf8 later (member k d ms) h =
    let rest = IsUtf8-append (compact_text d) (members_text true ms) h.1.0 (members_utf8 true ms h.1.1.1) in
    let colon = IsUtf8-append (58 ∷ []) (compact_text d ++ members_text true ms) (IsUtf8-are_ascii (58 ∷ []) refl) rest in
    IsUtf8-append (comma_if later) (quoted k ++ 58 ∷ (compact_text d ++ members_text true ms)) (comma_utf8 later)
    (IsUtf8-append (quoted k) (58 ∷ (compact_text d ++ members_text true ms)) (IsUtf8-quoted k h.0) colon)

regroup : (a b c f : List ℕ) → a ++ (b ++ 58 ∷ (c ++ (f ++ 125 ∷ []))) ≡ (a ++ (b ++ 58 ∷ (c ++ f))) ++ 125 ∷ []
regroup a b c f = simp append_assoc

-- the closing brace comes last
pub members_end : (later : Bool) (ms : Members) → (front : List ℕ) × (members_text later ms ≡ front ++ 125 ∷ [])
members_end later no_members = ([], refl)
members_end later (member k d ms) =
    let rest = members_end true ms in (
      comma_if later ++ (quoted k ++ 58 ∷ (compact_text d ++ rest.0)),
      ap (λ (t : List ℕ). comma_if later ++ (quoted k ++ 58 ∷ (compact_text d ++ t))) rest.1
          ∙ regroup (comma_if later) (quoted k) (compact_text d) rest.0,
    )

-- ---- the members of a message

plain_text : (k s : List ℕ) (ms : Members) → are_ascii k ≡ true → IsTrue (is_utf8 s) → ArePlain ms → ArePlain (member k (string s) ms)
plain_text k s ms key text rest =
    (IsUtf8-are_ascii k key, (IsUtf8-quoted s (IsUtf8-from_is_utf8 s text), (quoted_no_feed s, rest)))

plain_given : (k : List ℕ) (given : Option (List ℕ)) (ms : Members) → are_ascii k ≡ true → IfSome given (λ s. IsTrue (is_utf8 s)) → ArePlain ms
    → ArePlain (given_member k given ms)
plain_given k None ms key text rest = rest
plain_given k (Some s) ms key text rest = plain_text k s ms key text rest

digits_plain : (ds : List ℕ) → ((i : ℕ) → i < length ds → (48 ≤ get_or ds i 0) × (get_or ds i 0 ≤ 57))
    → (are_ascii ds ≡ true) × (list_all is_no_feed ds ≡ true)
digits_plain [] h = (refl, refl)
digits_plain (d ∷ ds) h =
    let first = h 0 (omega arith) in
    let rest = digits_plain ds (λ i l. h (suc i) (omega arith)) in
    (and_from _ _ (lt-ltb d 128 (omega arith)) rest.0, rw (ne_eqb d 10 (λ e. omega arith)) rest.1)

plain_number : (k : List ℕ) (n : ℕ) (ms : Members) → are_ascii k ≡ true → n < 2 ^ 64 → ArePlain ms → ArePlain (member k (whole_number n) ms)
plain_number k n ms key small rest =
    let digits = digits_plain (decimal n) (λ i l. digit_at (decimal n) i (decimal_is_IsNumeral n small).0.1 l) in
    (IsUtf8-are_ascii k key, (IsUtf8-are_ascii (decimal n) digits.0, (digits.1, rest)))

pub plain_parts : (campaign tenant : Option (List ℕ)) (body : List ℕ) (created : ℕ) (id recipient sender : List ℕ)
    → IfSome campaign (λ s. IsTrue (is_utf8 s)) → IfSome tenant (λ s. IsTrue (is_utf8 s)) → IsTrue (is_utf8 body) → created < 2 ^ 64
    → IsTrue (is_utf8 id) → IsTrue (is_utf8 recipient) → IsTrue (is_utf8 sender)
    → ArePlain (members_of_parts campaign tenant body created id recipient sender)
plain_parts campaign tenant body created id recipient sender c t b small i r s =
    let last = given_member (codes "tenant") tenant no_members in
    let from_sender = member (codes "sender") (string sender) last in
    let from_recipient = member (codes "recipient") (string recipient) from_sender in
    let from_id = member (codes "id") (string id) from_recipient in
    let from_created = member (codes "created") (whole_number created) from_id in
    let from_campaign = given_member (codes "campaign") campaign from_created in
    plain_text (codes "body") body from_campaign refl b
    (plain_given (codes "campaign") campaign from_created refl c
    (plain_number (codes "created") created from_id refl small
    (plain_text (codes "id") id from_recipient refl i
    (plain_text (codes "recipient") recipient from_sender refl r
    (plain_text (codes "sender") sender last refl s
    (plain_given (codes "tenant") tenant no_members refl t tt))))))

-- ---- the text of an object

pub object_utf8 : (ms : Members) → ArePlain ms → IsUtf8 (123 ∷ members_text false ms)
object_utf8 ms plain = IsUtf8-append (123 ∷ []) (members_text false ms) (IsUtf8-are_ascii (123 ∷ []) refl) (members_utf8 false ms plain)

pub object_no_feed : (ms : Members) → ArePlain ms → list_all is_no_feed (123 ∷ members_text false ms) ≡ true
object_no_feed ms plain = members_no_feed false ms plain

pub object_end : (ms : Members) → (front : List ℕ) × (123 ∷ members_text false ms ≡ front ++ 125 ∷ [])
object_end ms = let e = members_end false ms in (123 ∷ e.0, ap (λ (t : List ℕ). 123 ∷ t) e.1)
