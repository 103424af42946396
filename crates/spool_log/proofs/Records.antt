-- What six bytes that were read at an offset tell of the record there.
use Rattle.std.proofs.Common.{◌≡◌, ℕ, zero, suc, ◌+◌, ◌-◌, ◌≤◌, ◌<◌, ◌^◌, List, [], ◌∷◌, ◌++◌, length, take, drop, get_or, None, IfSome, refl, sym, ◌∙◌, ap, arith}
use Rattle.std.specs.Int.{from_be_bytes, to_be_bytes, w32}
use Rattle.std.proofs.lemmas.Nat.{be_bytes_4}
use Rattle.std.proofs.lemmas.List.{take-append-drop, take_all, length-take-le, length-drop, get_or-drop, drop_more, drop-drop}
use Rattle.kumo_disk.specs.Disk.{area_of, DiskSeen, Places}
use Rattle.kumo_disk.proofs.Runs.{at_some, if_some}
use Rattle.spool_log.specs.Area.{RecordAt, IsDamaged}
use Rattle.spool_log.specs.inside.Steps.{size_in, HasRecord, Judges}

-- a record's bytes are a head of six and the payload
record_split : (x kind a b c d : ℕ) (size : ℕ) (rest : List ℕ) → x ≡ 1 → size ≡ from_be_bytes w32 (a ∷ b ∷ c ∷ d ∷ []) → ((i : ℕ) → get_or (a ∷ b ∷ c ∷ d ∷ []) i 0 < 256) → 1 + size ≤ length rest → size < 2 ^ 32
    → (area : List ℕ) (at : ℕ) → drop at area ≡ (x ∷ kind ∷ a ∷ b ∷ c ∷ d ∷ []) ++ rest → RecordAt at (record { kind = kind; payload = take size rest }) area
record_split x kind a b c d size rest one is bytes room small area at split =
    let payload : List ℕ = take size rest in
    let long : length payload ≡ size = length-take-le size rest (omega (arith, room)) in
    let head : to_be_bytes w32 size ≡ a ∷ b ∷ c ∷ d ∷ [] = be_bytes_4 (a ∷ b ∷ c ∷ d ∷ []) size refl bytes is in
    let back : rest ≡ payload ++ get_or rest size 0 ∷ drop (size + 1) rest =
    sym (take-append-drop size rest) ∙ ap (λ (l : List ℕ). payload ++ l) (drop_more rest size 0 (omega (arith, room))) in
    record {
      gate = get_or rest size 0;
      rest = drop (size + 1) rest;
      split = split ∙ ap (λ (k : ℕ). k ∷ kind ∷ a ∷ b ∷ c ∷ d ∷ rest) one ∙ ap (λ (l : List ℕ). 1 ∷ kind ∷ a ∷ b ∷ c ∷ d ∷ l) back
          ∙ ap (λ (l : List ℕ). 1 ∷ kind ∷ (l ++ payload ++ get_or rest size 0 ∷ drop (size + 1) rest)) (sym head ∙ ap (λ (k : ℕ). to_be_bytes w32 k) (sym long));
      small = omega (arith, long, small);
    }

-- six bytes that judge a record to be there
pub some_record : (at n size long : ℕ) (area head : List ℕ) → Places area at n head → length head ≡ 6 → n ≡ 6 → get_or head 0 0 ≡ 1 → ((i : ℕ) → get_or head i 0 < 256) → size ≡ size_in (drop 2 head)
    → size < 2 ^ 32 → long ≡ length area → at ≤ long → 7 + size ≤ long - at → HasRecord at head area size
some_record at n size long area head placed six all one bytes is small whole le room =
    (small, omega (arith, whole, le, room), by head six one bytes is same)
  where
    rest_is : drop (at + 6) area ≡ drop 6 (drop at area)
    rest_is = sym (drop-drop 6 at area)

    same : drop at area ≡ head ++ drop (at + 6) area
    same =
        let front : head ≡ take 6 (drop at area) = sym (take_all n head (omega (arith, six, all))) ∙ placed.placed ∙ ap (λ (k : ℕ). take k (drop at area)) all in
        sym (take-append-drop 6 (drop at area)) ∙ ap (λ (l : List ℕ). l ++ drop 6 (drop at area)) (sym front) ∙ ap (λ (l : List ℕ). head ++ l) (sym rest_is)

    by : (h : List ℕ) → length h ≡ 6 → get_or h 0 0 ≡ 1 → ((i : ℕ) → get_or h i 0 < 256) → size ≡ size_in (drop 2 h) → drop at area ≡ h ++ drop (at + 6) area
        → RecordAt at (record { kind = get_or h 1 0; payload = take size (drop (at + 6) area) }) area
    by [] six one bytes is same = absurd (omega (arith, six))
    by (x ∷ []) six one bytes is same = absurd (omega (arith, six))
    by (x ∷ k ∷ []) six one bytes is same = absurd (omega (arith, six))
    by (x ∷ k ∷ a ∷ []) six one bytes is same = absurd (omega (arith, six))
    by (x ∷ k ∷ a ∷ b ∷ []) six one bytes is same = absurd (omega (arith, six))
    by (x ∷ k ∷ a ∷ b ∷ c ∷ []) six one bytes is same = absurd (omega (arith, six))
    by (x ∷ k ∷ a ∷ b ∷ c ∷ d ∷ e ∷ h) six one bytes is same = absurd (omega (arith, six))
    by (x ∷ k ∷ a ∷ b ∷ c ∷ d ∷ []) six one bytes is same =
        record_split x k a b c d size (drop (at + 6) area) one is (λ i. bytes (suc (suc i))) (omega (arith, room, whole, length-drop (at + 6) area)) small area at same

-- where none is judged to be there, an open gate is damage
pub damaged_at : (area at n long : ℕ) (head : List ℕ) (a b : DiskSeen) → b.told ≡ a.told → IfSome b.told (λ read. Places (area_of area read) at n head) → IfSome a.told (λ read. long ≡ length (area_of area read))
    → 0 < n → get_or head 0 0 ≡ 1 → Judges at n long head None → IfSome a.told (λ read. (at ≡ at) × IsDamaged at (area_of area read))
damaged_at area at n long head a b same placed whole some one judged = if_some (λ read. (at ≡ at) × IsDamaged at (area_of area read)) a.told (λ read told.
    let bytes : List ℕ = area_of area read in
    let here : Places bytes at n head = at_some (λ read. Places (area_of area read) at n head) b.told read (same ∙ told) placed in
    let gate : get_or bytes at 0 ≡ 1 = sym (first n head (drop at bytes) here.placed some ∙ get_or-drop at bytes 0 0 ∙ ap (λ (k : ℕ). get_or bytes k 0) (omega arith)) ∙ one in
    (refl, (gate, judged bytes here (at_some (λ read. long ≡ length (area_of area read)) a.told read told whole) one)))
  where
    first : (n : ℕ) (x y : List ℕ) → take n x ≡ take n y → 0 < n → get_or x 0 0 ≡ get_or y 0 0
    first zero x y same some = absurd (omega (arith, some))
    first (suc n) x y same some = front x ∙ ap (λ (l : List ℕ). get_or l 0 0) same ∙ sym (front y)
      where
        front : (l : List ℕ) → get_or l 0 0 ≡ get_or (take (suc n) l) 0 0
        front [] = refl
        front (z ∷ l) = refl
