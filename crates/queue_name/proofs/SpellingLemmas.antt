-- The spelling of a name is read, and gives the name.
use Rattle.std.proofs.Common.{◌≡◌, ℕ, List, [], ◌∷◌, ◌++◌, Bool, true, false, not, ◌==◌, ◌||◌, ◌&&◌, cond, nat_le, nat_lt, length, Option, Some, None, Ok, refl, sym, ap, ◌∙◌, arith, ne_eqb, IsTrue, Result, Err}
use Rattle.std.proofs.lemmas.List.{append_assoc, append-nil}
use Rattle.std.proofs.lemmas.List.Folds.{list_any-append}
use Rattle.std.proofs.lemmas.Bool.{or_from, or_right, and_parts, leb-true}
use Rattle.std.proofs.lemmas.Bool.Decides.{nat_tests}
use Rattle.std.specs.List.{list_any, list_all, before_first, after_first}
use Rattle.queue_name.specs.Address.{is_at}
use Rattle.queue_name.specs.QueueName.{Name, is_component_byte, is_domain_byte, is_component, is_domain, is_name, spelling, spelled}
use Rattle.queue_name.specs.NameText.{is_colon, is_exclamation, is_control, is_capital, is_bad, bad_from, bad_byte, if_any, components_around_at, components, has_empty, is_empty_component, name_in}
use Rattle.queue_name.specs.declared.parse.NameFault.{NameFault}
use Rattle.queue_name.specs.declared.name.TheConstants.{NAME_LIMIT}
use Rattle.queue_name.proofs.CutLemmas.{cut_is, no_place}

-- no byte of the four kinds
abbrev Plain : ℕ → Type 0
Plain b = (is_control b ≡ false) × (is_at b ≡ false) × (is_colon b ≡ false) × (is_exclamation b ≡ false)

plain_by : (x y z u v : Bool) → (x && not y && not z && not u && not v) ≡ true
    → ((not x || y) ≡ false) × (z ≡ false) × (u ≡ false) × (v ≡ false)
plain_by true false false false false h = (refl, refl, refl, refl)
plain_by false y z u v h = absurd cc
plain_by true true z u v h = absurd cc
plain_by true false true u v h = absurd cc
plain_by true false false true v h = absurd cc
plain_by true false false false true h = absurd cc

plain_byte : (b : ℕ) → is_component_byte b ≡ true → Plain b
plain_byte b = plain_by (nat_le 32 b) (b == 127) (b == 64) (b == 58) (b == 33)

abbrev Marks : List ℕ → Type 0
Marks xs = (list_any is_at xs ≡ false) × (list_any is_colon xs ≡ false) × (list_any is_exclamation xs ≡ false)

-- a component has no mark
plain : (xs : List ℕ) → list_all is_component_byte xs ≡ true → Marks xs
plain [] h = (refl, refl, refl)
plain (b ∷ xs) h =
    let parts = and_parts (is_component_byte b) (list_all is_component_byte xs) h in
    let first = plain_byte b parts.0 in
    let rest = plain xs parts.1 in
    (or_from _ _ first.1 rest.0, or_from _ _ first.2 rest.1, or_from _ _ first.3 rest.2)

-- a domain is made of bytes of a component
component_bytes : (xs : List ℕ) → list_all is_domain_byte xs ≡ true → list_all is_component_byte xs ≡ true
component_bytes [] h = refl
component_bytes (b ∷ xs) h =
    let parts = and_parts (is_domain_byte b) (list_all is_domain_byte xs) h in
    let first = and_parts (is_component_byte b) (not (nat_le 65 b && nat_le b 90)) parts.0 in
    let rest = component_bytes xs parts.1 in
    rw (first.0, rest) refl

not_both : (x y : Bool) → x ≡ false → (x && y) ≡ false
not_both x y h = rw h refl

not_true : (x : Bool) → not x ≡ true → x ≡ false
not_true true h = absurd cc
not_true false h = refl

not_second : (x y : Bool) → y ≡ false → (x && y) ≡ false
not_second true y h = h
not_second false y h = refl

-- a byte that may stand is passed
passed : (before : List ℕ) (b : ℕ) (after : List ℕ) → is_bad before b after ≡ false → bad_from (before ++ b ∷ []) after ≡ None
    → bad_from before (b ∷ after) ≡ None
passed before b after fine h = ap (λ t. cond t (Some (length before)) (bad_from (before ++ b ∷ []) after)) fine ∙ h

-- components before the `@` are passed
front_passed : (before front behind : List ℕ) → list_any is_at before ≡ false → list_all is_component_byte front ≡ true
    → list_any is_at behind ≡ true
    → bad_from (before ++ front) behind ≡ None → bad_from before (front ++ behind) ≡ None
front_passed before [] behind at all has h = ap (λ xs. bad_from xs behind) (sym (append-nil before)) ∙ h
front_passed before (b ∷ front) behind at all has h =
    let parts = and_parts (is_component_byte b) (list_all is_component_byte front) all in
    let first = plain_byte b parts.0 in
    let behind_has : list_any is_at (front ++ behind) ≡ true =
    list_any-append is_at front behind ∙ or_right (list_any is_at front) _ has in
    let no_capital : (list_any is_at before || not (list_any is_at (front ++ behind))) ≡ false =
    or_from _ _ at (ap not behind_has) in
    let fine : is_bad before b (front ++ behind) ≡ false =
    or_from _ _ (or_from _ _ (or_from _ _ first.0 (not_both (is_at b) _ first.1)) (not_both (is_colon b) _ first.2))
    (not_second (is_capital b) _ no_capital) in
    let at_next : list_any is_at (before ++ b ∷ []) ≡ false =
    list_any-append is_at before (b ∷ []) ∙ or_from _ _ at (or_from _ _ first.1 refl) in
    passed before b (front ++ behind) fine
    (front_passed (before ++ b ∷ []) front behind at_next parts.1 has
    (ap (λ xs. bad_from xs behind) (append_assoc before (b ∷ []) front) ∙ h))

-- the domain is passed
domain_passed : (before domain : List ℕ) → list_all is_domain_byte domain ≡ true → bad_from before domain ≡ None
domain_passed before [] all = refl
domain_passed before (b ∷ domain) all =
    let parts = and_parts (is_domain_byte b) (list_all is_domain_byte domain) all in
    let bytes = and_parts (is_component_byte b) (not (nat_le 65 b && nat_le b 90)) parts.0 in
    let first = plain_byte b bytes.0 in
    let capital : is_capital b ≡ false = not_true (is_capital b) bytes.1 in
    let fine : is_bad before b domain ≡ false =
    or_from _ _ (or_from _ _ (or_from _ _ first.0 (not_both (is_at b) _ first.1)) (not_both (is_colon b) _ first.2))
    (not_both (is_capital b) _ capital) in
    passed before b domain fine (domain_passed (before ++ b ∷ []) domain parts.1)

-- the `@` and the domain are passed
at_passed : (before domain : List ℕ) → list_any is_at before ≡ false → list_all is_domain_byte domain ≡ true
    → bad_from before (64 ∷ domain) ≡ None
at_passed before domain at all =
    let fine : is_bad before 64 domain ≡ false = rw at refl in
    passed before 64 domain fine (domain_passed (before ++ 64 ∷ []) domain all)

-- the `:` and what is behind it are passed
colon_passed : (before behind : List ℕ) → list_any is_colon before ≡ false → list_any is_at behind ≡ true
    → bad_from (before ++ 58 ∷ []) behind ≡ None
    → bad_from before (58 ∷ behind) ≡ None
colon_passed before behind colon has h =
    let fine : is_bad before 58 behind ≡ false = rw (colon, has) refl in
    passed before 58 behind fine h

-- what is read
read_as : (text : List ℕ) (n : Name) → components text ≡ n → list_any is_exclamation text ≡ false → bad_byte text ≡ None
    → has_empty n ≡ false → nat_le (length text) NAME_LIMIT ≡ true
    → name_in text ≡ Ok n
unfolding name_in
read_as text n is mark bad empty within =
    let short : nat_lt NAME_LIMIT (length text) ≡ false = let w = leb-true _ _ within in grind (arith, nat_tests) in
    rw (short, no_place 33 text mark, bad, is, empty) refl

-- a domain that may stand
abbrev Domain : List ℕ → Type 0
Domain xs = (nat_lt 0 (length xs) ≡ true) × (list_all is_domain_byte xs ≡ true)

full : (xs : List ℕ) → nat_lt 0 (length xs) ≡ true → (length xs == 0) ≡ false
full [] h = absurd cc
full (b ∷ xs) h = ne_eqb (length (b ∷ xs)) 0 (λ e. absurd (omega (arith, e)))

-- the components around the first `@`
components_are : (front domain : List ℕ) (u : Bool) → list_any is_at front ≡ false → list_any is_colon front ≡ u
    → components (front ++ (64 ∷ domain)) ≡ components_around_at front domain u
components_are front domain u at colon = let parts = cut_is 64 front domain at in rw (parts.2, parts.0, parts.1, colon) refl

plain_read : (domain : List ℕ) → Domain domain → nat_le (length domain) NAME_LIMIT ≡ true
    → name_in domain ≡ Ok (record { campaign = None; tenant = None; domain = domain })
plain_read domain h within =
    let marks = plain domain (component_bytes domain h.1) in
    let is : components domain ≡ record { campaign = None; tenant = None; domain = domain } = rw marks.0 refl in
    read_as domain (record { campaign = None; tenant = None; domain = domain }) is marks.2 (domain_passed [] domain h.1)
    (or_from _ _ (or_from _ _ (full domain h.0) refl) refl) within

no_mark : (front domain : List ℕ) → list_any is_exclamation front ≡ false → list_all is_domain_byte domain ≡ true
    → list_any is_exclamation (front ++ (64 ∷ domain)) ≡ false
no_mark front domain mark all =
    list_any-append is_exclamation front (64 ∷ domain) ∙ or_from _ _ mark (plain domain (component_bytes domain all)).2

tenant_read : (tenant domain : List ℕ) → is_component tenant ≡ true → Domain domain
    → nat_le (length (tenant ++ (64 ∷ domain))) NAME_LIMIT ≡ true
    → name_in (tenant ++ (64 ∷ domain)) ≡ Ok (record { campaign = None; tenant = Some tenant; domain = domain })
tenant_read tenant domain t d within =
    let parts = and_parts (nat_lt 0 (length tenant)) (list_all is_component_byte tenant) t in
    let marks = plain tenant parts.1 in
    read_as (tenant ++ (64 ∷ domain)) (record { campaign = None; tenant = Some tenant; domain = domain })
    (components_are tenant domain false marks.0 marks.1)
    (no_mark tenant domain marks.2 d.1)
    (front_passed [] tenant (64 ∷ domain) refl parts.1 refl (at_passed tenant domain marks.0 d.1))
    (or_from _ _ (or_from _ _ (full domain d.0) refl) (full tenant parts.0)) within

if_any_full : (tenant : List ℕ) → is_empty_component (if_any tenant) ≡ false
if_any_full [] = refl
if_any_full (b ∷ tenant) = ne_eqb (length (b ∷ tenant)) 0 (λ e. absurd (omega (arith, e)))

-- the text of a campaign, as what stands before and behind the `@`
regroup : (campaign tenant domain : List ℕ)
    → campaign ++ (58 ∷ (tenant ++ (64 ∷ domain))) ≡ (campaign ++ (58 ∷ tenant)) ++ (64 ∷ domain)
regroup campaign tenant domain = sym (append_assoc campaign (58 ∷ tenant) (64 ∷ domain))

-- the components around the first `:`
around_named : (front campaign tenant domain : List ℕ) → before_first is_colon front ≡ campaign
    → after_first is_colon front ≡ tenant
    → components_around_at front domain true ≡ record { campaign = Some campaign; tenant = if_any tenant; domain = domain }
around_named front campaign tenant domain before after = rw (before, after) refl

campaign_read : (campaign tenant domain : List ℕ) → is_component campaign ≡ true → list_all is_component_byte tenant ≡ true
    → Domain domain
    → nat_le (length (campaign ++ (58 ∷ (tenant ++ (64 ∷ domain))))) NAME_LIMIT ≡ true
    → name_in (campaign ++ (58 ∷ (tenant ++ (64 ∷ domain))))
    ≡ Ok (record { campaign = Some campaign; tenant = if_any tenant; domain = domain })
campaign_read campaign tenant domain c t d within =
    let n : Name = record { campaign = Some campaign; tenant = if_any tenant; domain = domain } in
    let parts = and_parts (nat_lt 0 (length campaign)) (list_all is_component_byte campaign) c in
    let marks = plain campaign parts.1 in
    let marks_behind = plain tenant t in
    let whole = regroup campaign tenant domain in
    let colon = cut_is 58 campaign tenant marks.1 in
    let at : list_any is_at (campaign ++ (58 ∷ tenant)) ≡ false =
    list_any-append is_at campaign (58 ∷ tenant) ∙ or_from _ _ marks.0 marks_behind.0 in
    let mark : list_any is_exclamation (campaign ++ (58 ∷ tenant)) ≡ false =
    list_any-append is_exclamation campaign (58 ∷ tenant) ∙ or_from _ _ marks.2 marks_behind.2 in
    let is : components (campaign ++ (58 ∷ (tenant ++ (64 ∷ domain)))) ≡ n =
    ap components whole ∙ components_are (campaign ++ (58 ∷ tenant)) domain true at colon.2
    ∙ around_named (campaign ++ (58 ∷ tenant)) campaign tenant domain colon.0 colon.1 in
    let has : list_any is_at (tenant ++ (64 ∷ domain)) ≡ true =
    list_any-append is_at tenant (64 ∷ domain) ∙ or_right (list_any is_at tenant) true refl in
    let at_colon : list_any is_at (campaign ++ 58 ∷ []) ≡ false =
    list_any-append is_at campaign (58 ∷ []) ∙ or_from _ _ marks.0 refl in
    let at_tenant : list_any is_at ((campaign ++ 58 ∷ []) ++ tenant) ≡ false =
    list_any-append is_at (campaign ++ 58 ∷ []) tenant ∙ or_from _ _ at_colon marks_behind.0 in
    let behind =
    front_passed (campaign ++ 58 ∷ []) tenant (64 ∷ domain) at_colon t refl
    (at_passed ((campaign ++ 58 ∷ []) ++ tenant) domain at_tenant d.1) in
    let bad =
    front_passed [] campaign (58 ∷ (tenant ++ (64 ∷ domain))) refl parts.1 has
    (colon_passed campaign (tenant ++ (64 ∷ domain)) marks.1 has behind) in
    read_as (campaign ++ (58 ∷ (tenant ++ (64 ∷ domain)))) n is
    (ap (list_any is_exclamation) whole ∙ no_mark (campaign ++ (58 ∷ tenant)) domain mark d.1) bad
    (or_from _ _ (or_from _ _ (full domain d.0) (full campaign parts.0)) (if_any_full tenant)) within

-- a component that may stand is given as it is
if_any_is : (tenant : List ℕ) → is_component tenant ≡ true → if_any tenant ≡ Some tenant
if_any_is [] h = absurd cc
if_any_is (b ∷ tenant) h = refl

read_by : (campaign tenant : Option (List ℕ)) (domain : List ℕ)
    → is_name (record { campaign = campaign; tenant = tenant; domain = domain }) ≡ true
    → name_in (spelled campaign tenant domain) ≡ Ok (record { campaign = campaign; tenant = tenant; domain = domain })
read_by None None domain h =
    let ends = and_parts (is_domain domain) (nat_le (length domain) NAME_LIMIT) h in
    plain_read domain (and_parts (nat_lt 0 (length domain)) (list_all is_domain_byte domain) ends.0) ends.1
read_by None (Some tenant) domain h =
    let ends = and_parts _ (nat_le (length (tenant ++ (64 ∷ domain))) NAME_LIMIT) h in
    let domains = and_parts _ (is_domain domain) ends.0 in
    let tenants = and_parts true (is_component tenant) domains.0 in
    tenant_read tenant domain tenants.1 (and_parts (nat_lt 0 (length domain)) (list_all is_domain_byte domain) domains.1) ends.1
read_by (Some campaign) None domain h =
    let ends = and_parts _ (nat_le (length (campaign ++ (58 ∷ (64 ∷ domain)))) NAME_LIMIT) h in
    let domains = and_parts _ (is_domain domain) ends.0 in
    let campaigns = and_parts (is_component campaign) true domains.0 in
    campaign_read campaign [] domain campaigns.0 refl
    (and_parts (nat_lt 0 (length domain)) (list_all is_domain_byte domain) domains.1) ends.1
read_by (Some campaign) (Some tenant) domain h =
    let ends = and_parts _ (nat_le (length (campaign ++ (58 ∷ (tenant ++ (64 ∷ domain))))) NAME_LIMIT) h in
    let domains = and_parts _ (is_domain domain) ends.0 in
    let both = and_parts (is_component campaign) (is_component tenant) domains.0 in
    let bytes = and_parts (nat_lt 0 (length tenant)) (list_all is_component_byte tenant) both.1 in
    let read =
    campaign_read campaign tenant domain both.0 bytes.1
    (and_parts (nat_lt 0 (length domain)) (list_all is_domain_byte domain) domains.1) ends.1 in
    read ∙ ap (λ t. Ok (record { campaign = Some campaign; tenant = t; domain = domain })) (if_any_is tenant both.1)

-- the spelling of a name is read as that name
pub spelling_read : (n : Name) → IsTrue (is_name n) → name_in (spelling n) ≡ Ok n
spelling_read n = read_by n.campaign n.tenant n.domain

ok_or : {A B : Type 0} → A → Result A B → A
ok_or a (Ok x) = x
ok_or a (Err e) = a

abbrev name_ok : Name → Result Name NameFault
name_ok n = Ok n

same_ok : (m n : Name) → name_ok m ≡ name_ok n → m ≡ n
unfolding ok_or
same_ok m n e = ap (ok_or m) e

-- two names with one spelling are one name
pub same_spelling : (m n : Name) → IsTrue (is_name m) → IsTrue (is_name n) → spelling m ≡ spelling n → m ≡ n
same_spelling m n p q e = same_ok m n (sym (spelling_read m p) ∙ ap name_in e ∙ spelling_read n q)
