-- Names and their spellings: what is read is a name and spells the text.
use Rattle.std.proofs.Common.{◌≡◌, ◌≤◌, ℕ, List, [], ◌∷◌, ◌++◌, Bool, true, false, not, ◌==◌, ◌||◌, ◌&&◌, cond, nat_le, nat_lt, length, Option, Some, None, refl, sym, ap, ◌∙◌, arith, subst, ne_eqb, IsTrue, Result, Ok, Err}
use Rattle.std.proofs.lemmas.List.{append_assoc, append-nil}
use Rattle.std.proofs.lemmas.List.Folds.{list_any-append}
use Rattle.std.proofs.lemmas.Bool.{or_parts, or_left, or_right, le-leb}
use Rattle.std.specs.List.{list_any, list_all, before_first, after_first, position}
use Rattle.queue_name.specs.Address.{is_at}
use Rattle.queue_name.specs.QueueName.{Name, is_component_byte, is_domain_byte, is_component, is_domain, is_name, spelling, spelled, is_optional_component}
use Rattle.queue_name.specs.NameText.{is_colon, is_exclamation, is_control, is_capital, is_bad, is_stray_colon, is_second_at, is_capital_in_domain, bad_from, if_any, components_around_at, components_by, components, bad_byte, has_empty, is_empty_component, named, name_in}
use Rattle.std.proofs.lemmas.Bool.Decides.{nat_tests}
use Rattle.queue_name.specs.declared.parse.NameFault.{NameFault}
use Rattle.queue_name.specs.declared.parse.NameFault.TheVariants as fault
use Rattle.queue_name.specs.declared.name.TheConstants.{NAME_LIMIT}
use Rattle.queue_name.proofs.CutLemmas.{cut, absent}

goes_on_by : (t : Bool) (n : ℕ) (o : Option ℕ) → cond t (Some n) o ≡ None → (t ≡ false) × (o ≡ None)
goes_on_by true n o h = absurd cc
goes_on_by false n o h = (refl, h)

-- what is wrong with a byte
abbrev Fine : List ℕ → ℕ → List ℕ → Type 0
Fine before b after =
    (is_control b ≡ false) × (is_second_at before b ≡ false) × (is_stray_colon before b after ≡ false)
    × (is_capital_in_domain before b after ≡ false)

fine_by : (p q r s : Bool) → (p || q || r || s) ≡ false → (p ≡ false) × (q ≡ false) × (r ≡ false) × (s ≡ false)
fine_by false false false false h = (refl, refl, refl, refl)
fine_by true q r s h = absurd cc
fine_by false true r s h = absurd cc
fine_by false false true s h = absurd cc
fine_by false false false true h = absurd cc

-- where no byte is bad the first is not, and none after it
goes_on : (before : List ℕ) (b : ℕ) (after : List ℕ) → bad_from before (b ∷ after) ≡ None
    → Fine before b after × (bad_from (before ++ b ∷ []) after ≡ None)
goes_on before b after h =
    let parts = goes_on_by (is_bad before b after) _ _ h in (
      fine_by (is_control b) (is_second_at before b) (is_stray_colon before b after)
          (is_capital_in_domain before b after) parts.0,
      parts.1,
    )

first_false : (x y : Bool) → (x && y) ≡ false → y ≡ true → x ≡ false
first_false true y h is = absurd cc
first_false false y h is = refl

component_by : (x y z u v : Bool) → (not x || y) ≡ false → z ≡ false → u ≡ false → v ≡ false
    → (x && not y && not z && not u && not v) ≡ true
component_by true false z u v h at colon mark = rw (at, colon, mark) refl
component_by true true z u v h at colon mark = absurd cc
component_by false y z u v h at colon mark = absurd cc

-- a byte that is none of these may stand in a component
component_byte : (b : ℕ) → is_control b ≡ false → is_at b ≡ false → is_colon b ≡ false → is_exclamation b ≡ false
    → is_component_byte b ≡ true
component_byte b = component_by (nat_le 32 b) (b == 127) (b == 64) (b == 58) (b == 33)

both : (x y : Bool) → x ≡ true → y ≡ true → (x && y) ≡ true
both x y p q = rw (p, q) refl

-- components before the `@`
front_keeps : (before front behind : List ℕ) → list_any is_at front ≡ false → list_any is_colon front ≡ false
    → list_any is_exclamation front ≡ false
    → bad_from before (front ++ behind) ≡ None
    → (list_all is_component_byte front ≡ true) × (bad_from (before ++ front) behind ≡ None)
front_keeps before [] behind at colon mark h = (refl, ap (λ xs. bad_from xs behind) (append-nil before) ∙ h)
front_keeps before (b ∷ front) behind at colon mark h =
    let ats = or_parts (is_at b) (list_any is_at front) at in
    let colons = or_parts (is_colon b) (list_any is_colon front) colon in
    let marks = or_parts (is_exclamation b) (list_any is_exclamation front) mark in
    let step = goes_on before b (front ++ behind) h in
    let rest = front_keeps (before ++ b ∷ []) front behind ats.1 colons.1 marks.1 step.1 in (
      both (is_component_byte b) _ (component_byte b step.0.0 ats.0 colons.0 marks.0) rest.0,
      ap (λ xs. bad_from xs behind) (sym (append_assoc before (b ∷ []) front)) ∙ rest.1,
    )

has_more : (p : ℕ → Bool) (xs ys : List ℕ) → list_any p xs ≡ true → list_any p (xs ++ ys) ≡ true
has_more p xs ys h = list_any-append p xs ys ∙ or_left _ _ h

-- behind the `:` there is no other
no_second_colon : (before tenant behind : List ℕ) → list_any is_colon before ≡ true → bad_from before (tenant ++ behind) ≡ None
    → list_any is_colon tenant ≡ false
no_second_colon before [] behind has h = refl
no_second_colon before (b ∷ tenant) behind has h =
    let step = goes_on before b (tenant ++ behind) h in
    let first : is_colon b ≡ false = first_false (is_colon b) _ step.0.2 (or_left _ _ has) in
    let rest = no_second_colon (before ++ b ∷ []) tenant behind (has_more is_colon before (b ∷ []) has) step.1 in
    rw (first, rest) refl

-- behind the `@` there is no other
no_second_at : (before domain : List ℕ) → list_any is_at before ≡ true → bad_from before domain ≡ None
    → list_any is_at domain ≡ false
no_second_at before [] has h = refl
no_second_at before (b ∷ domain) has h =
    let step = goes_on before b domain h in
    let first : is_at b ≡ false = first_false (is_at b) _ step.0.1 has in
    let rest = no_second_at (before ++ b ∷ []) domain (has_more is_at before (b ∷ []) has) step.1 in
    rw (first, rest) refl

-- what has no `@` in it and none behind it is a domain
domain_keeps : (before domain : List ℕ) → list_any is_at domain ≡ false → list_any is_exclamation domain ≡ false
    → bad_from before domain ≡ None
    → list_all is_domain_byte domain ≡ true
domain_keeps before [] at mark h = refl
domain_keeps before (b ∷ domain) at mark h =
    let ats = or_parts (is_at b) (list_any is_at domain) at in
    let marks = or_parts (is_exclamation b) (list_any is_exclamation domain) mark in
    let step = goes_on before b domain h in
    let alone : not (list_any is_at domain) ≡ true = ap not ats.1 in
    let colon = first_false (is_colon b) _ step.0.2 (or_right _ _ alone) in
    let capital = first_false (is_capital b) _ step.0.3 (or_right _ _ alone) in
    let rest = domain_keeps (before ++ b ∷ []) domain ats.1 marks.1 step.1 in
    both (is_domain_byte b) _ (both (is_component_byte b) _ (component_byte b step.0.0 ats.0 colon marks.0) (ap not capital)) rest

not_empty : (xs : List ℕ) → (length xs == 0) ≡ false → nat_lt 0 (length xs) ≡ true
not_empty [] h = absurd cc
not_empty (x ∷ xs) h = le-leb 1 (length (x ∷ xs)) (omega arith)

-- a name by its parts
is_name_by : (x y z u : Bool) → x ≡ true → y ≡ true → z ≡ true → u ≡ true → (x && y && z && u) ≡ true
is_name_by x y z u p q r s = rw (p, q, r, s) refl

-- a name, and its spelling
abbrev Spells : Name → List ℕ → Type 0
Spells n text = (is_name n ≡ true) × (spelling n ≡ text)

-- a domain by itself
plain_sound : (text : List ℕ) → list_any is_at text ≡ false → list_any is_exclamation text ≡ false → bad_from [] text ≡ None
    → has_empty (components_by text false) ≡ false → length text ≤ NAME_LIMIT → Spells (components_by text false) text
plain_sound text at mark h empty within =
    let parts = or_parts _ _ (or_parts _ _ empty).0 in (
      is_name_by true true (is_domain text) _ refl refl (both _ _ (not_empty text parts.0) (domain_keeps [] text at mark h))
          (le-leb _ _ within),
      refl,
    )

-- what stands behind the `@`
domain_behind : (before domain : List ℕ) → list_any is_exclamation domain ≡ false → bad_from before (64 ∷ domain) ≡ None
    → list_all is_domain_byte domain ≡ true
domain_behind before domain mark h =
    let has : list_any is_at (before ++ 64 ∷ []) ≡ true =
    list_any-append is_at before (64 ∷ []) ∙ or_right (list_any is_at before) true refl in
    let rest = (goes_on before 64 domain h).1 in
    domain_keeps (before ++ 64 ∷ []) domain (no_second_at (before ++ 64 ∷ []) domain has rest) mark rest

-- a name of a tenant
tenant_sound : (front domain : List ℕ) → list_any is_at front ≡ false → list_any is_colon front ≡ false
    → list_any is_exclamation (front ++ (64 ∷ domain)) ≡ false
    → bad_from [] (front ++ (64 ∷ domain)) ≡ None → has_empty (components_around_at front domain false) ≡ false
    → length (front ++ (64 ∷ domain)) ≤ NAME_LIMIT
    → Spells (components_around_at front domain false) (front ++ (64 ∷ domain))
tenant_sound front domain at colon mark h empty within =
    let marks =
    or_parts (list_any is_exclamation front) (list_any is_exclamation domain)
    (sym (list_any-append is_exclamation front (64 ∷ domain)) ∙ mark) in
    let fronts = front_keeps [] front (64 ∷ domain) at colon marks.0 h in
    let parts = or_parts (length domain == 0 || false) (length front == 0) empty in
    let ends = or_parts (length domain == 0) false parts.0 in (
      is_name_by true (is_component front) (is_domain domain) _ refl (both _ _ (not_empty front parts.1) fronts.0)
          (both _ _ (not_empty domain ends.0) (domain_behind front domain marks.1 fronts.1)) (le-leb _ _ within),
      refl,
    )

optional_is : (tenant : List ℕ) → list_all is_component_byte tenant ≡ true → is_optional_component (if_any tenant) ≡ true
optional_is [] h = refl
optional_is (b ∷ tenant) h = both (nat_lt 0 (length (b ∷ tenant))) _ (le-leb 1 (length (b ∷ tenant)) (omega arith)) h

pub spelled_is : (campaign tenant domain : List ℕ)
    → spelled (Some campaign) (if_any tenant) domain ≡ campaign ++ (58 ∷ (tenant ++ (64 ∷ domain)))
spelled_is campaign [] domain = refl
spelled_is campaign (b ∷ tenant) domain = refl

optional_full : (tenant : List ℕ) → is_empty_component (if_any tenant) ≡ false
optional_full [] = refl
optional_full (b ∷ tenant) = ne_eqb (length (b ∷ tenant)) 0 (λ e. absurd (omega (arith, e)))

-- a name of a campaign
campaign_sound : (campaign tenant domain : List ℕ) → list_any is_at (campaign ++ (58 ∷ tenant)) ≡ false
    → list_any is_colon campaign ≡ false
    → list_any is_exclamation (campaign ++ (58 ∷ (tenant ++ (64 ∷ domain)))) ≡ false
    → bad_from [] (campaign ++ (58 ∷ (tenant ++ (64 ∷ domain)))) ≡ None
    → has_empty (record { campaign = Some campaign; tenant = if_any tenant; domain = domain }) ≡ false
    → length (campaign ++ (58 ∷ (tenant ++ (64 ∷ domain)))) ≤ NAME_LIMIT
    → Spells (record { campaign = Some campaign; tenant = if_any tenant; domain = domain })
    (campaign ++ (58 ∷ (tenant ++ (64 ∷ domain))))
campaign_sound campaign tenant domain at colon mark h empty within =
    let ats =
    or_parts (list_any is_at campaign) (list_any is_at tenant) (sym (list_any-append is_at campaign (58 ∷ tenant)) ∙ at) in
    let marks =
    or_parts (list_any is_exclamation campaign) (list_any is_exclamation (tenant ++ (64 ∷ domain)))
    (sym (list_any-append is_exclamation campaign (58 ∷ (tenant ++ (64 ∷ domain)))) ∙ mark) in
    let marks_behind =
    or_parts (list_any is_exclamation tenant) (list_any is_exclamation domain)
    (sym (list_any-append is_exclamation tenant (64 ∷ domain)) ∙ marks.1) in
    let fronts = front_keeps [] campaign (58 ∷ (tenant ++ (64 ∷ domain))) ats.0 colon marks.0 h in
    let step = (goes_on campaign 58 (tenant ++ (64 ∷ domain)) fronts.1).1 in
    let has : list_any is_colon (campaign ++ 58 ∷ []) ≡ true =
    list_any-append is_colon campaign (58 ∷ []) ∙ or_right (list_any is_colon campaign) true refl in
    let single = no_second_colon (campaign ++ 58 ∷ []) tenant (64 ∷ domain) has step in
    let tenants = front_keeps (campaign ++ 58 ∷ []) tenant (64 ∷ domain) ats.1 single marks_behind.0 step in
    let parts = or_parts (length domain == 0 || length campaign == 0) (is_empty_component (if_any tenant)) empty in
    let ends = or_parts (length domain == 0) (length campaign == 0) parts.0 in
    let same = spelled_is campaign tenant domain in (
      is_name_by (is_component campaign) (is_optional_component (if_any tenant)) (is_domain domain) _
          (both _ _ (not_empty campaign ends.1) fronts.0)
          (optional_is tenant tenants.0)
          (both _ _ (not_empty domain ends.0) (domain_behind ((campaign ++ 58 ∷ []) ++ tenant) domain marks_behind.1 tenants.1))
          (ap (λ xs. nat_le (length xs) NAME_LIMIT) same ∙ le-leb _ _ within),
      same,
    )

-- what a text has to be so that it is read
abbrev Reads : List ℕ → Name → Type 0
Reads text n =
    (list_any is_exclamation text ≡ false) × (bad_from [] text ≡ None) × (has_empty n ≡ false) × (length text ≤ NAME_LIMIT)

around_sound : (front domain : List ℕ) (u : Bool) → list_any is_at front ≡ false → list_any is_colon front ≡ u
    → Reads (front ++ (64 ∷ domain)) (components_around_at front domain u)
    → Spells (components_around_at front domain u) (front ++ (64 ∷ domain))
around_sound front domain false at colon h = tenant_sound front domain at colon h.0 h.1 h.2 h.3
around_sound front domain true at colon h =
    let campaign : List ℕ = before_first is_colon front in
    let tenant : List ℕ = after_first is_colon front in
    let parts = cut 58 front colon in
    let whole : front ++ (64 ∷ domain) ≡ campaign ++ (58 ∷ (tenant ++ (64 ∷ domain))) =
    ap (λ xs. xs ++ (64 ∷ domain)) parts.0 ∙ append_assoc campaign (58 ∷ tenant) (64 ∷ domain) in
    let found =
    campaign_sound campaign tenant domain (sym (ap (list_any is_at) parts.0) ∙ at) parts.1
    (sym (ap (list_any is_exclamation) whole) ∙ h.0)
    (sym (ap (bad_from []) whole) ∙ h.1) h.2 (subst (λ xs. length xs ≤ NAME_LIMIT) whole h.3) in
    (found.0, found.1 ∙ sym whole)

sound_by : (text : List ℕ) (t : Bool) → list_any is_at text ≡ t → Reads text (components_by text t)
    → Spells (components_by text t) text
sound_by text false at h = plain_sound text at h.0 h.1 h.2 h.3
sound_by text true at h =
    let parts = cut 64 text at in
    subst (λ xs. Reads xs (components_by text true) → Spells (components_by text true) xs) (sym parts.0)
    (around_sound (before_first is_at text) (after_first is_at text) _ parts.1 refl) h

-- a text in which each byte may stand gives a name and is its spelling
pub sound : (text : List ℕ) → position is_exclamation text ≡ None → bad_byte text ≡ None → has_empty (components text) ≡ false
    → length text ≤ NAME_LIMIT
    → (is_name (components text) ≡ true) × (spelling (components text) ≡ text)
sound text mark bad empty within = sound_by text _ refl (absent 33 text mark, bad, empty, within)

-- the same, by the components that were found
pub is_name-found : (text : List ℕ) (campaign tenant : Option (List ℕ)) (domain : List ℕ)
    → components text ≡ record { campaign = campaign; tenant = tenant; domain = domain }
    → position is_exclamation text ≡ None → bad_byte text ≡ None
    → has_empty (record { campaign = campaign; tenant = tenant; domain = domain }) ≡ false → length text ≤ NAME_LIMIT
    → is_name (record { campaign = campaign; tenant = tenant; domain = domain }) ≡ true
is_name-found text campaign tenant domain found mark bad empty within =
    subst (λ (n : Name). has_empty n ≡ false → is_name n ≡ true) found (λ h. (sound text mark bad h within).0) empty

ok_from : {A B : Type 0} → Result A B → A → A
ok_from (Ok x) a = x
ok_from (Err e) a = a

abbrev name_ok : Name → Result Name NameFault
name_ok n = Ok n

same_name : (m n : Name) → name_ok m ≡ name_ok n → m ≡ n
unfolding ok_from
same_name m n e = ap (λ r. ok_from r m) e

empty_by : (t : Bool) (m n : Name) → cond t (Err fault.Empty) (name_ok m) ≡ Ok n → (t ≡ false) × (m ≡ n)
empty_by true m n h = absurd cc
empty_by false m n h = (refl, same_name m n h)

named_by : (mark bad : Option ℕ) (m n : Name) → named mark bad m ≡ Ok n
    → (mark ≡ None) × (bad ≡ None) × (has_empty m ≡ false) × (m ≡ n)
named_by (Some at) bad m n h = absurd cc
named_by None (Some at) m n h = absurd cc
named_by None None m n h = let parts = empty_by (has_empty m) m n h in (refl, refl, parts.0, parts.1)

long_by : (t : Bool) (r : Result Name NameFault) (n : Name) → cond t (Err fault.Overlong) r ≡ Ok n → (t ≡ false) × (r ≡ Ok n)
long_by true r n h = absurd cc
long_by false r n h = (refl, h)

-- what is read is a name, and the text is its spelling
pub read_is_name : (text : List ℕ) (n : Name) → name_in text ≡ Ok n → IsTrue (is_name n) × (spelling n ≡ text)
unfolding name_in
read_is_name text n h =
    let outer = long_by (nat_lt NAME_LIMIT (length text)) _ n h in
    let within : length text ≤ NAME_LIMIT = let t = outer.0 in grind (arith, nat_tests) in
    let parts = named_by (position is_exclamation text) (bad_byte text) (components text) n outer.1 in
    subst (λ (m : Name). (is_name m ≡ true) × (spelling m ≡ text)) parts.3 (sound text parts.0 parts.1 parts.2 within)
