-- The texts of a message in memory, and its payload put together from the front.
use Rattle.std.proofs.Common.{◌≡◌, ℕ, List, [], ◌++◌, append_assoc, ap, ◌∙◌}
use Rattle.std.specs.Prelude.{unwrap_or}
use Rattle.std.specs.Int.{w64, w128, to_be_bytes}
use Rattle.queue_name.specs.declared.message.Message.{Message}
use Rattle.spool_format.specs.Fields.{text_field}
use Rattle.spool_format.specs.Held.{held_payload}

regrouped : (o a b c d e f g : List ℕ)
    → ((((((o ++ a) ++ b) ++ c) ++ d) ++ e) ++ f) ++ g ≡ o ++ (a ++ (b ++ (c ++ (d ++ (e ++ (f ++ g))))))
regrouped o a b c d e f g =
    append_assoc (((((o ++ a) ++ b) ++ c) ++ d) ++ e) f g ∙ append_assoc ((((o ++ a) ++ b) ++ c) ++ d) e (f ++ g)
    ∙ append_assoc (((o ++ a) ++ b) ++ c) d (e ++ (f ++ g)) ∙ append_assoc ((o ++ a) ++ b) c (d ++ (e ++ (f ++ g)))
    ∙ append_assoc (o ++ a) b (c ++ (d ++ (e ++ (f ++ g)))) ∙ append_assoc o a (b ++ (c ++ (d ++ (e ++ (f ++ g)))))

-- the fields put behind other bytes, one after another
pub put_together : (m : Message) (o a b c d e f g : List ℕ) → a ≡ to_be_bytes w128 m.id → b ≡ to_be_bytes w64 m.created
    → c ≡ text_field m.sender → d ≡ text_field m.recipient → e ≡ text_field (unwrap_or m.name.campaign [])
    → f ≡ text_field (unwrap_or m.name.tenant []) → g ≡ text_field m.body
    → ((((((o ++ a) ++ b) ++ c) ++ d) ++ e) ++ f) ++ g ≡ o ++ held_payload m
unfolding held_payload
put_together m o a b c d e f g p0 p1 p2 p3 p4 p5 p6 =
    regrouped o a b c d e f g
    ∙ (λ i. o ++ (p0 i ++ (p1 i ++ (p2 i ++ (p3 i ++ (p4 i ++ (p5 i ++ p6 i)))))))

-- one more piece behind pieces
pub appended : (new old piece front : List ℕ) → new ≡ old ++ piece → old ≡ front → new ≡ front ++ piece
appended new old piece front e is = e ∙ ap (λ (xs : List ℕ). xs ++ piece) is
