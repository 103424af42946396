-- Each entry of the run of one delivered message, which is due at 0, may follow those before it.
use Rattle.std.proofs.Common.{eq-eqb, ◌≡◌, ℕ, ◌==◌, List, [], ◌∷◌, Bool, true, false, Option, Some, None, refl, ap, sym, ◌∙◌, inl, arith, bytes_eq, option_and_then}
use Rattle.std.proofs.lemmas.Slice.Eq.{bytes_eq-Decides}
use Rattle.queue_name.specs.Message.{IsProperMessage}
use Rattle.smtp_reply.specs.ReplyText.{IsReplyOf}
use Rattle.queue_name.specs.declared.message.Message.{Message}
use Rattle.smtp_reply.specs.declared.reply.Reply.{Reply}
use Rattle.smtp_reply.specs.declared.reply.Outcome.TheVariants.{Delivered}
use Rattle.policy_core.specs.Limits.{unspecified}
use Rattle.policy_core.specs.PathTables.{path_text}
use Rattle.policy_core.specs.Site.{are_same_texts}
use Rattle.policy_core.specs.Rotation.{Place, rotation, rotation_of, pick}
use Rattle.policy_core.specs.declared.site.Site.{Site}
use Rattle.policy_core.specs.declared.sources.Pool.{Pool}
use Rattle.history_core.specs.declared.entry.Entry.{Entry}
use Rattle.history_core.specs.declared.entry.Event.TheVariants as event
use Rattle.history_core.specs.declared.entry.Next.TheVariants.{Settled}
use Rattle.history_core.specs.declared.entry.Cause.TheVariants.{Empty}
use Rattle.history_core.specs.declared.path.Path.{Path}
use Rattle.history_core.specs.declared.path.Promoted.{Promoted}
use Rattle.history_core.specs.History.{message_with, path_for, text_of, is_same_path, promotions, paths, path_named}
use Rattle.history_core.specs.Retry.{is_aged}
use Rattle.history_core.specs.LiveOrders.{orders}
use Rattle.history_core.specs.Ready.{ready, first_free}
use Rattle.history_core.specs.Candidates.{pool_of, source_at, has_room, pick_for}
use Rattle.history_core.specs.Openable.{is_openable, next_to_open, verdict, work}
use Rattle.history_core.specs.Sweep.{next_swept}
use Rattle.history_core.specs.Legal.{MayFollow}
use Rattle.kumo_run.specs.PlainPolicy.{plain_policy}
use Rattle.kumo_run.specs.inside.OneDelivery.{entry, path_to, after_acceptance, after_promotion, after_opening, after_beginning, after_ending, after_closing}
use Rattle.kumo_run.proofs.PlainLemmas.{settings_are, site_is, limits_are, not_halted, free}
use Rattle.kumo_run.proofs.SweepLemmas.{sweep_promotes, sweep_is_done}

same_number : (n : ℕ) → (n == n) ≡ true
same_number n = eq-eqb n n refl

same_text : (xs : List ℕ) → bytes_eq xs xs ≡ true
same_text xs = (bytes_eq-Decides xs xs).1 refl

-- ---- the pool

abbrev plain_pool : Pool
plain_pool = record { name = unspecified; entrants = record { source = unspecified; weight = 1 } ∷ [] }

pool_is : (m : Message) → pool_of plain_policy m ≡ Some plain_pool
pool_is m = rw (settings_are m) refl

picked : (eligible : List Bool) (last : Option Place) → eligible ≡ true ∷ [] → last ≡ None
    → option_and_then (source_at plain_pool) (pick (rotation plain_pool) eligible last) ≡ Some unspecified
unfolding pick rotation_of
picked eligible last e f = rw (e, f) refl

room : (h : List Entry) (t : ℕ) (p : Path) → orders h ≡ [] → ready plain_policy h p ≡ [] → has_room plain_policy h t p ≡ true
room h t p none empty = rw (not_halted h t none p, limits_are h t p, empty) refl

not_aged : (m : Message) → m.created ≡ 0 → is_aged plain_policy 0 m ≡ false
not_aged m at_0 = rw (settings_are m, at_0) refl

-- ---- the message is accepted

pub may_accept : (m : Message) → IsProperMessage m → MayFollow plain_policy [] (entry (event.Accepted m))
may_accept m p = record { running = refl; proper = record { moment = omega arith; event = p }; later = omega arith; row = refl }

-- ---- it is promoted

picks : (m : Message) → pick_for plain_policy (after_acceptance m) 0 m ≡ Some unspecified
picks m = rw (pool_is m) (picked _ _ (ap (λ (b : Bool). b ∷ []) (room (after_acceptance m) 0 _ refl refl)) refl)

promotes : (m : Message) → m.created ≡ 0 → next_swept plain_policy (after_acceptance m) 0 ≡ Some (event.Promoted m.id unspecified)
promotes m at_0 =
    sweep_promotes plain_policy (after_acceptance m) 0 m refl (rw (not_aged m at_0) refl) refl unspecified
    (rw (at_0, free (after_acceptance m) 0 refl m, picks m) refl) (picks m)

pub may_promote : (m : Message) → m.created ≡ 0 → MayFollow plain_policy (after_acceptance m) (entry (event.Promoted m.id unspecified))
may_promote m at_0 = record { running = refl; proper = record { moment = omega arith; event = tt }; later = omega arith; row = promotes m at_0 }

-- ---- its connection is opened

same_texts : (texts : List (List ℕ)) → are_same_texts texts texts ≡ true
same_texts [] = refl
same_texts (text ∷ texts) = rw (same_text text, same_texts texts) refl

same_path : (p : Path) → is_same_path p p ≡ true
same_path p = rw (same_text p.source, same_text p.site.name, same_texts p.site.hosts) refl

-- the path that the message is promoted to
abbrev its_path : Message → Path
its_path m = path_for plain_policy m unspecified

its_text : (m : Message) → text_of (its_path m) ≡ path_to m
its_text m = ap (λ (site : Site). path_text unspecified site.name) (site_is m.name.domain)

text_is_its : (m : Message) → bytes_eq (text_of (its_path m)) (path_to m) ≡ true
text_is_its m = ap (λ (text : List ℕ). bytes_eq text (path_to m)) (its_text m) ∙ same_text (path_to m)

is_its_text : (m : Message) → bytes_eq (path_to m) (text_of (its_path m)) ≡ true
is_its_text m = ap (λ (text : List ℕ). bytes_eq (path_to m) text) (its_text m) ∙ same_text (path_to m)

abbrev its_promotion : Message → Promoted
its_promotion m = record { place = 1; id = m.id; path = its_path m }

-- what holds after the promotion, and after the opening too
record IsReady (m : Message) (h : List Entry) : Type 0 where
  no_orders : orders h ≡ []
  promotions_are : promotions plain_policy h ≡ its_promotion m ∷ []
  with_id : message_with h m.id ≡ Some m
  ready_is : ready plain_policy h (its_path m) ≡ m.id ∷ []

ready_after_promotion : (m : Message) → IsReady m (after_promotion m)
ready_after_promotion m = record {
  no_orders = refl;
  promotions_are = rw (same_number m.id) refl;
  with_id = rw (same_number m.id) refl;
  ready_is = rw (same_number m.id, same_path (its_path m)) refl;
}

ready_after_opening : (m : Message) → IsReady m (after_opening m)
ready_after_opening m = record {
  no_orders = refl;
  promotions_are = rw (same_number m.id) refl;
  with_id = rw (same_number m.id) refl;
  ready_is = rw (same_number m.id, same_path (its_path m)) refl;
}

module _ (m : Message) (h : List Entry) (t : ℕ) (is_ready : IsReady m h) where
  paths_are : paths plain_policy h ≡ its_path m ∷ []
  paths_are = rw is_ready.promotions_are refl

  first_is : first_free plain_policy h t (its_path m) ≡ Some m.id
  first_is = rw (is_ready.ready_is, is_ready.with_id, free h t is_ready.no_orders m) refl

  named : path_named plain_policy h (path_to m) ≡ Some (its_path m)
  named = rw (paths_are, text_is_its m) refl

done_after_promotion : (m : Message) → m.created ≡ 0 → next_swept plain_policy (after_promotion m) 0 ≡ None
done_after_promotion m at_0 =
    sweep_is_done plain_policy (after_promotion m) 0 m refl (rw (not_aged m at_0) refl)
    (rw (same_number m.id, same_number m.id) refl)
    (rw (same_number m.id) refl)

openable : (m : Message) → is_openable plain_policy (after_promotion m) 0 (its_path m) ≡ true
openable m =
    let is_ready = ready_after_promotion m in
    rw (limits_are (after_promotion m) 0 (its_path m), first_is m (after_promotion m) 0 is_ready) refl

opens : (m : Message) → next_to_open plain_policy (after_promotion m) 0 ≡ Some (its_path m)
opens m = rw (paths_are m (after_promotion m) 0 (ready_after_promotion m), openable m) refl

pub may_open : (m : Message) → m.created ≡ 0 → MayFollow plain_policy (after_promotion m) (entry (event.Opened 1 (path_to m) 0))
may_open m at_0 = record {
  running = refl;
  proper = record { moment = omega arith; event = tt };
  later = omega arith;
  row = (done_after_promotion m at_0, refl, refl, its_path m, opens m, sym (its_text m), rw (limits_are (after_promotion m) 0 (its_path m)) refl);
}

-- ---- its attempt begins

verdict_is : (m : Message) → verdict plain_policy (after_opening m) 0 1 ≡ Some (work m.id)
verdict_is m =
    let is_ready = ready_after_opening m in
    rw (
      named m (after_opening m) 0 is_ready,
      limits_are (after_opening m) 0 (its_path m),
      is_its_text m,
      first_is m (after_opening m) 0 is_ready,
    ) refl

pub may_begin : (m : Message) → MayFollow plain_policy (after_opening m) (entry (event.Begun 1 m.id 0))
may_begin m = record {
  running = refl;
  proper = record { moment = omega arith; event = tt };
  later = omega arith;
  row = (refl, refl, verdict_is m, rw (named m (after_opening m) 0 (ready_after_opening m), limits_are (after_opening m) 0 (its_path m)) refl);
}

-- ---- it ends

pub may_end : (m : Message) (reply : Reply) → IsReplyOf 2 reply → MayFollow plain_policy (after_beginning m) (entry (event.Ended 1 m.id (Delivered reply) Settled))
may_end m reply p = record {
  running = refl;
  proper = record { moment = omega arith; event = (p, tt) };
  later = omega arith;
  row = (refl, refl, m, rw (same_number m.id) refl, refl);
}

pub may_close : (m : Message) (reply : Reply) → MayFollow plain_policy (after_ending m reply) (entry (event.Closed 1 Empty))
may_close m reply = record { running = refl; proper = record { moment = omega arith; event = tt }; later = omega arith; row = (refl, refl, tt) }

pub may_stop : (m : Message) (reply : Reply) → MayFollow plain_policy (after_closing m reply) (entry event.Stopped)
may_stop m reply = record {
  running = refl;
  proper = record { moment = omega arith; event = tt };
  later = omega arith;
  row = (refl, inl (rw (same_number m.id) refl));
}

pub may_stop_at_once : MayFollow plain_policy [] (entry event.Stopped)
may_stop_at_once = record { running = refl; proper = record { moment = omega arith; event = tt }; later = omega arith; row = (refl, inl refl) }
