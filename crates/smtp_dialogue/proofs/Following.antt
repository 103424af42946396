-- One part of a session and then the next.
use Rattle.std.proofs.Common.{◌≡◌, ℕ, ◌≤◌, List, ◌++◌, Bool, true, refl, ap, sym, subst, inl, inr, ◌∙◌, append_assoc, le_trans, arith}
use Rattle.std.proofs.lemmas.Bool.{false≢true}
use Rattle.kumo_outside.specs.Content.{told_with, TakesPrefix, TakesProperPrefix}
use Rattle.smtp_reply.specs.declared.reply.Outcome.{Outcome}
use Rattle.smtp_dialogue.specs.Transcript.{Spoken, Standing, alive, over, waiting, is_alive, joined_at, followed_by}
use Rattle.smtp_dialogue.specs.Speaks.{Side, WentThrough, IsCutShort, Speaks, with_more, IsStable}
use Rattle.smtp_dialogue.proofs.Parts.{reset_behind}
use Rattle.kumo_outside.proofs.ContentLemmas.{told_with-next, TakesPrefix-after, TakesProperPrefix-after}

-- what is joined where the first part left the link alive
joined_alive : (standing : Standing) (first : Spoken) (next : List ℕ → Spoken) → is_alive standing ≡ true → joined_at standing first next ≡ joined_at alive first next
joined_alive alive first next e = refl
joined_alive over first next e = absurd (false≢true e)
joined_alive waiting first next e = absurd (false≢true e)

whole_then_whole : (s0 s1 s2 : Side) (t u v : Spoken) (o1 o2 : List Outcome) (a : Bool) → WentThrough t s0 s1 o1 true → WentThrough u s1 s2 o2 a
    → v.sent ≡ t.sent ++ u.sent → v.outcomes ≡ t.outcomes ++ u.outcomes → v.standing ≡ u.standing → v.rest ≡ u.rest → WentThrough v s0 s2 (o1 ++ o2) a
whole_then_whole s0 s1 s2 t u v o1 o2 a w x es eo et er = record {
  sent = told_with-next s0.link.sent s1.link.sent s2.link.sent t.sent u.sent w.sent x.sent ∙ ap (told_with s0.link.sent) (sym es);
  outcomes_are = cc (w.outcomes_are, x.outcomes_are);
  alive_is = x.alive_is ∙ ap is_alive (sym et);
  left = λ l. x.left l ∙ sym er;
  waited = λ e. x.waited (sym et ∙ e);
}

whole_then_short : (s0 s1 s2 : Side) (t u v : Spoken) (o1 f2 o2 : List Outcome) (a : Bool) → s0.link.faults ≤ s1.link.faults → WentThrough t s0 s1 o1 true → IsCutShort u s1 s2 f2 o2 a
    → v.sent ≡ t.sent ++ u.sent → v.outcomes ≡ t.outcomes ++ u.outcomes → v.standing ≡ u.standing → IsCutShort v s0 s2 (o1 ++ f2) (o1 ++ o2) a
whole_then_short s0 s1 s2 t u v o1 f2 o2 a later w x es eo et = record {
  rose = omega (arith, x.rose);
  alive_is = x.alive_is;
  not_ended = x.not_ended;
  prefix = subst (TakesPrefix s0.link.sent s2.link.sent) (sym es) (TakesPrefix-after s0.link.sent s1.link.sent s2.link.sent t.sent u.sent w.sent x.prefix);
  short = elim x.short [
    | inl e ↦ inl (et ∙ e)
    | inr f ↦ inr (subst (TakesProperPrefix s0.link.sent s2.link.sent) (sym es) (TakesProperPrefix-after s0.link.sent s1.link.sent s2.link.sent t.sent u.sent w.sent f))
  ];
  outcomes_are = elim x.outcomes_are [ inl e ↦ inl (ap (λ (o : List Outcome). o1 ++ o) e) | inr e ↦ inr (cc (w.outcomes_are, e.0), reset_behind s0 s1 s2 t.sent v u w.sent es e.1) ];
}

-- what two parts joined are, where the first is stable and left the link alive
joined_is : (first second : List ℕ → Spoken) (unread more1 more2 left : List ℕ) → IsStable first → is_alive (first (unread ++ more1)).standing ≡ true → left ≡ (first (unread ++ more1)).rest
    → followed_by (first (unread ++ (more1 ++ more2))) second ≡ joined_at alive (record { sent = (first (unread ++ more1)).sent; outcomes = (first (unread ++ more1)).outcomes; standing = (first (unread ++ more1)).standing; rest = left ++ more2 }) second
joined_is first second unread more1 more2 left s a e =
    ap (λ (bytes : List ℕ). followed_by (first bytes) second) (sym (append_assoc unread more1 more2))
    ∙ ap (λ (t : Spoken). followed_by t second) (s (unread ++ more1) more2 a)
    ∙ joined_alive (first (unread ++ more1)).standing (with_more more2 (first (unread ++ more1))) second a
    ∙ ap (λ (rest : List ℕ). joined_at alive (record { sent = (first (unread ++ more1)).sent; outcomes = (first (unread ++ more1)).outcomes; standing = (first (unread ++ more1)).standing; rest = rest ++ more2 }) second) (sym e)

followed_whole : (first second : List ℕ → Spoken) (s0 s1 s2 : Side) (more1 : List ℕ) (o1 f2 o2 : List Outcome) (a2 : Bool)
    → IsStable first → s1.link.got ≡ told_with s0.link.got more1 → s0.link.faults ≤ s1.link.faults → WentThrough (first (s0.unread ++ more1)) s0 s1 o1 true → Speaks second s1 s2 f2 o2 a2
    → Speaks (λ bytes. followed_by (first bytes) second) s0 s2 (o1 ++ f2) (o1 ++ o2) a2
followed_whole first second s0 s1 s2 more1 o1 f2 o2 a2 s grows later w y =
    let t = first (s0.unread ++ more1) in
    let u = second (s1.unread ++ y.more) in
    let v = followed_by (first (s0.unread ++ (more1 ++ y.more))) second in
    let e = joined_is first second s0.unread more1 y.more s1.unread s (sym w.alive_is) (w.left refl) in
    let es : v.sent ≡ t.sent ++ u.sent = ap (λ (s : Spoken). s.sent) e in
    let eo : v.outcomes ≡ t.outcomes ++ u.outcomes = ap (λ (s : Spoken). s.outcomes) e in
    let et : v.standing ≡ u.standing = ap (λ (s : Spoken). s.standing) e in
    let er : v.rest ≡ u.rest = ap (λ (s : Spoken). s.rest) e in
    record {
      more = more1 ++ y.more;
      grows = told_with-next s0.link.got s1.link.got s2.link.got more1 y.more grows y.grows;
      later = le_trans later y.later;
      spoke = elim y.spoke [
        | inl x ↦ inl (whole_then_whole s0 s1 s2 t u v o1 o2 a2 w x es eo et er)
        | inr x ↦ inr (whole_then_short s0 s1 s2 t u v o1 f2 o2 a2 later w x es eo et)
      ];
    }

-- the first part left the link alive, and then the second went its way
pub followed : {first second : List ℕ → Spoken} {s0 s1 s2 : Side} {f1 o1 f2 o2 : List Outcome} {a2 : Bool}
    → IsStable first → Speaks first s0 s1 f1 o1 true → Speaks second s1 s2 f2 o2 a2 → Speaks (λ bytes. followed_by (first bytes) second) s0 s2 (o1 ++ f2) (o1 ++ o2) a2
followed {first} {second} {s0} {s1} {s2} {f1} {o1} {f2} {o2} {a2} s x y =
    elim x.spoke [
      | inl w ↦ followed_whole first second s0 s1 s2 x.more o1 f2 o2 a2 s x.grows x.later w y
      | inr c ↦ absurd (false≢true (sym c.alive_is))
    ]
