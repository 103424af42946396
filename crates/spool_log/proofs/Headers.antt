-- What the first bytes of an area tell.
use Rattle.std.proofs.Common.{◌≡◌, inl, inr, ℕ, zero, suc, ◌+◌, ◌≤◌, ◌<◌, ◌==◌, List, [], ◌∷◌, ◌++◌, length, take, drop, get_or, Bool, true, false, Option, Some, None, IfSome, refl, sym, ◌∙◌, subst, ap, arith, cond}
use Rattle.std.specs.Int.{from_be_bytes, to_be_bytes, w64}
use Rattle.std.proofs.Math.Seq.{take-add}
use Rattle.std.proofs.lemmas.Bool.{cases_lt}
use Rattle.std.proofs.lemmas.Bool.Decides.{nat_tests}
use Rattle.std.proofs.lemmas.Nat.{be_bytes_8}
use Rattle.std.proofs.lemmas.List.{take-take, drop-take, take_all, length-take-le, length-drop, get_or-drop}
use Rattle.kumo_disk.specs.Disk.{area_of, DiskSeen, Places}
use Rattle.kumo_disk.proofs.Runs.{at_some, if_some}
use Rattle.spool_log.specs.declared.head.Header.{Header}
use Rattle.spool_log.specs.declared.head.Start.{Start}
use Rattle.spool_log.specs.declared.head.Start.TheVariants.{Blank, Wrong, Headed}
use Rattle.spool_log.specs.Area.{header_of}
use Rattle.spool_log.specs.Head.{version_by, version_in, magic, first_wrong, generation_in, header_in, by_length, by_magic, start_of}
use Rattle.spool_log.specs.inside.Steps.{SaysFront}

get_or_front : (k : ℕ) (l : List ℕ) (i : ℕ) → i < k → get_or (take k l) i 0 ≡ get_or l i 0
get_or_front zero l i lt = absurd (omega (arith, lt))
get_or_front (suc k) [] i lt = refl
get_or_front (suc k) (x ∷ l) zero lt = refl
get_or_front (suc k) (x ∷ l) (suc i) lt = get_or_front k l i (omega (arith, lt))

get_or_past : (k : ℕ) (l : List ℕ) (i : ℕ) → k ≤ i → get_or (take k l) i 0 ≡ 0
get_or_past zero l i le = refl
get_or_past (suc k) [] i le = refl
get_or_past (suc k) (x ∷ l) zero le = absurd (omega (arith, le))
get_or_past (suc k) (x ∷ l) (suc i) le = get_or_past k l i (omega (arith, le))

-- the first 17 bytes tell what all do
first_wrong_front : (wants : List ℕ) (k at : ℕ) (bytes : List ℕ) → length wants ≤ k → first_wrong wants at (take k bytes) ≡ first_wrong wants at bytes
first_wrong_front [] k at bytes le = refl
first_wrong_front (want ∷ wants) zero at bytes le = absurd (omega (arith, le))
first_wrong_front (want ∷ wants) (suc k) at [] le = refl
first_wrong_front (want ∷ wants) (suc k) at (b ∷ bytes) le = by (b == want) (first_wrong_front wants k (at + 1) bytes (omega (arith, le)))
  where
    by : (t : Bool) → first_wrong wants (at + 1) (take k bytes) ≡ first_wrong wants (at + 1) bytes → cond t (first_wrong wants (at + 1) (take k bytes)) (Some at) ≡ cond t (first_wrong wants (at + 1) bytes) (Some at)
    by t same = ap (λ (o : Option ℕ). cond t o (Some at)) same

version_front : (bytes : List ℕ) → version_in (take 17 bytes) ≡ version_in bytes
version_front bytes = ap version_by (get_or_front 17 bytes 4 (omega arith))

generation_front : (bytes : List ℕ) → generation_in (take 17 bytes) ≡ generation_in bytes
generation_front bytes =
    let same : take 8 (drop 8 (take 17 bytes)) ≡ take 8 (drop 8 bytes) = ap (λ (l : List ℕ). take 8 l) (drop-take 8 9 bytes) ∙ take-take 8 9 (drop 8 bytes) (omega arith) in
    ap (λ (l : List ℕ). from_be_bytes w64 l) same

header_front : (bytes : List ℕ) → header_in (take 17 bytes) ≡ header_in bytes
header_front bytes = by (version_front bytes) (generation_front bytes)
  where
    by : version_in (take 17 bytes) ≡ version_in bytes → generation_in (take 17 bytes) ≡ generation_in bytes → header_in (take 17 bytes) ≡ header_in bytes
    by version generation = cc

pub by_length_long : (bytes : List ℕ) → 17 ≤ length bytes → by_length bytes ≡ Headed (header_in bytes)
by_length_long bytes le = grind (arith, nat_tests)

by_length_front : (bytes : List ℕ) → 17 ≤ length bytes → by_length (take 17 bytes) ≡ by_length bytes
by_length_front bytes le =
    by_length_long (take 17 bytes) (omega (arith, le, length-take-le 17 bytes le)) ∙ ap (λ (h : Header). Headed h) (header_front bytes) ∙ sym (by_length_long bytes le)

by_magic_front : (o p : Option ℕ) (a b : List ℕ) → o ≡ p → by_length a ≡ by_length b → by_magic o a ≡ by_magic p b
by_magic_front o p a b same long = ap (λ (q : Option ℕ). by_magic q a) same ∙ by p
  where
    by : (q : Option ℕ) → by_magic q a ≡ by_magic q b
    by None = long
    by (Some at) = refl

start_long : (bytes : List ℕ) → 17 ≤ length bytes → start_of (take 17 bytes) ≡ start_of bytes
start_long [] le = refl
start_long (a ∷ []) le = refl
start_long (a ∷ b ∷ bytes) le =
    let version : version_in (take 17 (a ∷ b ∷ bytes)) ≡ version_in (a ∷ b ∷ bytes) = version_front (a ∷ b ∷ bytes) in
    let wrong : first_wrong (magic (version_in (take 17 (a ∷ b ∷ bytes)))) 1 (take 16 (b ∷ bytes)) ≡ first_wrong (magic (version_in (a ∷ b ∷ bytes))) 1 (b ∷ bytes) =
    ap (λ (v : ℕ). first_wrong (magic v) 1 (take 16 (b ∷ bytes))) version ∙ first_wrong_front (magic (version_in (a ∷ b ∷ bytes))) 16 1 (b ∷ bytes) (omega arith) in
    ap (λ (s : Start). cond (a == 1) s Blank) (by_magic_front _ _ (take 17 (a ∷ b ∷ bytes)) (a ∷ b ∷ bytes) wrong (by_length_front (a ∷ b ∷ bytes) le))

-- what was read of the first bytes tells it
pub start_read : (bytes head : List ℕ) (n : ℕ) → Places bytes 0 n head → length head ≡ 17 → n ≤ 17 → start_of (take n head) ≡ start_of bytes
start_read bytes head n placed long le = ap start_of placed.placed ∙ elim (cases_lt n 17) as (λ _. start_of (take n bytes) ≡ start_of bytes) [
  | inl short ↦ ap start_of (take_all n bytes (omega (arith, placed.at_end (omega (arith, short, long)))))
  | inr whole ↦
      let is : n ≡ 17 = omega (arith, le, whole) in
      ap (λ (k : ℕ). start_of (take k bytes)) is ∙ start_long bytes (omega (arith, placed.within, is))
]

-- from a header back to the bytes
first_wrong_none : (wants : List ℕ) (at : ℕ) (bytes : List ℕ) → first_wrong wants at bytes ≡ None → take (length wants) bytes ≡ wants
first_wrong_none [] at bytes none = refl
first_wrong_none (want ∷ wants) at [] none = absurd (clash none)
  where
    clash : Some at ≡ None → ⊥
    clash is = cc
first_wrong_none (want ∷ wants) at (b ∷ bytes) none = by (b == want) refl (λ rest. first_wrong_none wants (at + 1) bytes rest) none
  where
    same : (x y : ℕ) → (x == y) ≡ true → x ≡ y
    same x y test = grind (arith, nat_tests)

    clash : Some at ≡ None → ⊥
    clash is = cc

    by : (t : Bool) → (b == want) ≡ t → (first_wrong wants (at + 1) bytes ≡ None → take (length wants) bytes ≡ wants) → cond t (first_wrong wants (at + 1) bytes) (Some at) ≡ None
        → b ∷ take (length wants) bytes ≡ want ∷ wants
    by true test more rest =
        let first : b ≡ want = same b want test in
        let others : take (length wants) bytes ≡ wants = more rest in
        cc
    by false test more rest = absurd (clash rest)

generation_bytes : (l : List ℕ) → 17 ≤ length l → ((i : ℕ) → get_or l i 0 < 256) → to_be_bytes w64 (generation_in l) ≡ take 8 (drop 8 l)
generation_bytes l long bytes = be_bytes_8 (take 8 (drop 8 l)) (generation_in l) (length-take-le 8 (drop 8 l) (omega (arith, long, length-drop 8 l))) small refl
  where
    small : (i : ℕ) → get_or (take 8 (drop 8 l)) i 0 < 256
    small i = elim (cases_lt i 8) as (λ _. get_or (take 8 (drop 8 l)) i 0 < 256) [
      | inl lt ↦ omega (arith, get_or_front 8 (drop 8 l) i lt, get_or-drop 8 l i 0, bytes (8 + i))
      | inr past ↦ omega (arith, get_or_past 8 (drop 8 l) i past)
    ]

header_bytes : (x : ℕ) (t : List ℕ) → x ≡ 1 → 17 ≤ length (x ∷ t) → ((i : ℕ) → get_or (x ∷ t) i 0 < 256) → take 7 t ≡ magic (version_in (x ∷ t)) → take 16 (x ∷ t) ≡ header_of (header_in (x ∷ t))
header_bytes x t one long bytes front =
    let l : List ℕ = x ∷ t in
    take-add 8 8 l ∙ ap (λ (k : ℕ). (k ∷ take 7 t) ++ take 8 (drop 8 l)) one ∙ ap (λ (m : List ℕ). (1 ∷ m) ++ take 8 (drop 8 l)) front
    ∙ ap (λ (m : List ℕ). (1 ∷ magic (version_in l)) ++ m) (sym (generation_bytes l long bytes))

pub says_front : (l : List ℕ) → ((i : ℕ) → get_or l i 0 < 256) → SaysFront l (start_of l)
says_front [] bytes = tt
says_front (x ∷ []) bytes = tt
says_front (x ∷ y ∷ t) bytes = by (x == 1) refl
  where
    same : (n : ℕ) → (n == 1) ≡ true → n ≡ 1
    same n test = grind (arith, nat_tests)

    whole : x ≡ 1 → first_wrong (magic (version_in (x ∷ y ∷ t))) 1 (y ∷ t) ≡ None → SaysFront (x ∷ y ∷ t) (by_length (x ∷ y ∷ t))
    whole one none = elim (cases_lt (length (x ∷ y ∷ t)) 17) as (λ _. SaysFront (x ∷ y ∷ t) (by_length (x ∷ y ∷ t))) [
      | inl short ↦ subst (λ (s : Start). SaysFront (x ∷ y ∷ t) s) (sym (by_length_short short)) tt
      | inr long ↦ subst (λ (s : Start). SaysFront (x ∷ y ∷ t) s) (sym (by_length_long (x ∷ y ∷ t) long)) (header_bytes x (y ∷ t) one long bytes (first_wrong_none (magic (version_in (x ∷ y ∷ t))) 1 (y ∷ t) none), long)
    ]
      where
        by_length_short : length (x ∷ y ∷ t) < 17 → by_length (x ∷ y ∷ t) ≡ Wrong (length (x ∷ y ∷ t))
        by_length_short lt = grind (arith, nat_tests)

    by_wrong : x ≡ 1 → (o : Option ℕ) → first_wrong (magic (version_in (x ∷ y ∷ t))) 1 (y ∷ t) ≡ o → SaysFront (x ∷ y ∷ t) (by_magic o (x ∷ y ∷ t))
    by_wrong one None is = whole one is
    by_wrong one (Some at) is = tt

    by : (t₁ : Bool) → (x == 1) ≡ t₁ → SaysFront (x ∷ y ∷ t) (cond t₁ (by_magic (first_wrong (magic (version_in (x ∷ y ∷ t))) 1 (y ∷ t)) (x ∷ y ∷ t)) Blank)
    by true test = by_wrong (same x test) (first_wrong (magic (version_in (x ∷ y ∷ t))) 1 (y ∷ t)) refl
    by false test = tt

-- what opening an area answers, by what was read of its first bytes
module _ (area : ℕ) (a : DiskSeen) (head front : List ℕ) (n : ℕ) (placed : IfSome a.told (λ read. Places (area_of area read) 0 n head)) (long : length head ≡ 17) (le : n ≤ 17)
    (is : front ≡ take n head) where
  pub start_found : (s : Start) → start_of front ≡ s → IfSome a.told (λ read. start_of (area_of area read) ≡ s)
  start_found s says = if_some (λ read. start_of (area_of area read) ≡ s) a.told (λ read told.
      sym (start_read (area_of area read) head n (at_some (λ read. Places (area_of area read) 0 n head) a.told read told placed) long le) ∙ ap start_of (sym is) ∙ says)

  pub header_found : (h : Header) → start_of front ≡ Headed h → SaysFront front (Headed h)
      → IfSome a.told (λ read. (start_of (area_of area read) ≡ Headed h) × (take 16 (area_of area read) ≡ header_of h) × (17 ≤ length (area_of area read)))
  header_found h says fronts = if_some (λ read. (start_of (area_of area read) ≡ Headed h) × (take 16 (area_of area read) ≡ header_of h) × (17 ≤ length (area_of area read))) a.told (λ read told.
      let bytes : List ℕ = area_of area read in
      let here : Places bytes 0 n head = at_some (λ read. Places (area_of area read) 0 n head) a.told read told placed in
      let same : front ≡ take n bytes = is ∙ here.placed in
      let most : length (take n bytes) ≡ n = length-take-le n bytes here.within in
      let all : n ≡ 17 = omega (arith, le, fronts.1, ap length same, most) in
      let first : take 16 front ≡ take 16 bytes = ap (λ (l : List ℕ). take 16 l) (same ∙ ap (λ (k : ℕ). take k bytes) all) ∙ take-take 16 17 bytes (omega arith) in
      (at_some (λ read. start_of (area_of area read) ≡ Headed h) a.told read told (start_found (Headed h) says), sym first ∙ fronts.0, omega (arith, here.within, all)))
