-- What contracts see of a turnstile and of a pass.
use Rattle.std.specs.Prelude.{◌≡◌, ℕ, None}
use Rattle.atomic_table.specs.Seated.{TableId}
use Rattle.turnstile.specs.declared.pass.Pass.{Pass}
use Rattle.turnstile.specs.declared.stile.Turnstile.{Turnstile}
use Rattle.turnstile.specs.Views.{known, View}

-- what it knows
abbrev pub view : Pass → View
view p = known p.badge.views

-- the turnstile itself, as its passes name it
abbrev pub id_of : {T : Type 0} → Turnstile T → TableId
id_of s = s.table.shared.table_id

-- how many passes it has room for
abbrev pub seats_of : {T : Type 0} → Turnstile T → ℕ
seats_of s = s.seats

-- the turnstile that it is of
abbrev pub stile_of : Pass → TableId
stile_of p = p.badge.table_id

-- it has not the turn
abbrev pub IsIdle : Pass → Type 0
IsIdle p = (view p).took ≡ None

-- whole turns change neither its number nor whom it met
abbrev pub KeepsPlace : Pass → Pass → Type 0
KeepsPlace p q = (stile_of q ≡ stile_of p) × IsIdle q
    × ((view q).number ≡ (view p).number) × ((view q).met ≡ (view p).met) × ((view q).given ≡ (view p).given)
