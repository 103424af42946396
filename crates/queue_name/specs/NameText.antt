-- What a text names: the name that it is the spelling of, or the first refusal.
use Rattle.std.specs.Prelude.{◌≡◌, ◌==◌, ℕ, nat_lt, nat_le, List, [], ◌∷◌, ◌++◌, length, Bool, true, false, not, ◌&&◌, ◌||◌, Option, Some, None, Result, Ok, Err, if◌then◌else◌, ◌⊎◌}
use Rattle.std.specs.List.{list_any, position, before_first, after_first}
use Rattle.queue_name.specs.Address.{is_at}
use Rattle.queue_name.specs.QueueName.{Name}
use Rattle.queue_name.specs.Limits.{name_limit}
use Rattle.queue_name.specs.declared.parse.NameFault.{NameFault}
use Rattle.queue_name.specs.declared.parse.NameFault.TheVariants as fault

abbrev pub is_colon : ℕ → Bool
is_colon b = b == 58

abbrev pub is_exclamation : ℕ → Bool
is_exclamation b = b == 33

abbrev pub is_control : ℕ → Bool
is_control b = not (nat_le 32 b) || b == 127

abbrev pub is_capital : ℕ → Bool
is_capital b = nat_le 65 b && nat_le b 90

-- a second `@`
abbrev pub is_second_at : List ℕ → ℕ → Bool
is_second_at before b = is_at b && list_any is_at before

-- a `:` that has no `@` after it, or another `:` before it
abbrev pub is_stray_colon : List ℕ → ℕ → List ℕ → Bool
is_stray_colon before b after = is_colon b && (list_any is_colon before || not (list_any is_at after))

-- a capital behind the first `@`, or in a text that has none
abbrev pub is_capital_in_domain : List ℕ → ℕ → List ℕ → Bool
is_capital_in_domain before b after = is_capital b && (list_any is_at before || not (list_any is_at after))

-- whether a byte may not stand between what is before it and what is after it
abbrev pub is_bad : List ℕ → ℕ → List ℕ → Bool
is_bad before b after =
    is_control b || is_second_at before b || is_stray_colon before b after || is_capital_in_domain before b after

-- the place of the first byte of a text that may not stand there, of the bytes from some place on
abbrev pub bad_from : List ℕ → List ℕ → Option ℕ
bad_from before [] = None
bad_from before (b ∷ after) = if is_bad before b after then Some (length before) else bad_from (before ++ b ∷ []) after

abbrev pub bad_byte : List ℕ → Option ℕ
bad_byte text = bad_from [] text

-- a component, where it is not empty
abbrev pub if_any : List ℕ → Option (List ℕ)
if_any [] = None
if_any (b ∷ more) = Some (b ∷ more)

-- the components of `tenant@domain`, `campaign:tenant@domain` or `campaign:@domain`, by what stands before the `@`
abbrev pub components_around_at : List ℕ → List ℕ → Bool → Name
components_around_at front domain true =
    record { campaign = Some (before_first is_colon front); tenant = if_any (after_first is_colon front); domain = domain }
components_around_at front domain false = record { campaign = None; tenant = Some front; domain = domain }

-- the components of a text, by whether it has an `@`
abbrev pub components_by : List ℕ → Bool → Name
components_by text true =
    components_around_at (before_first is_at text) (after_first is_at text) (list_any is_colon (before_first is_at text))
components_by text false = record { campaign = None; tenant = None; domain = text }

-- the components of a text in which each byte may stand; one that has to be there may be empty
abbrev pub components : List ℕ → Name
components text = components_by text (list_any is_at text)

abbrev pub is_empty_component : Option (List ℕ) → Bool
is_empty_component None = false
is_empty_component (Some bytes) = length bytes == 0

-- a component that has to be there is empty
abbrev pub has_empty : Name → Bool
has_empty n = length n.domain == 0 || is_empty_component n.campaign || is_empty_component n.tenant

-- by the first `!`, the first byte that may not stand there, and the components
abbrev pub named : Option ℕ → Option ℕ → Name → Result Name NameFault
named (Some at) bad n = Err (fault.Routing at)
named None (Some at) n = Err (fault.BadByte at)
named None None n = if has_empty n then Err fault.Empty else Ok n

-- the name that a text is the spelling of, or why it is none
unfoldable pub name_in : List ℕ → Result Name NameFault
name_in text =
    if nat_lt name_limit (length text) then Err fault.Overlong
    else named (position is_exclamation text) (bad_byte text) (components text)

-- a refusal other than for memory is what the text deserves
abbrev pub IsNameFaultOf : NameFault → List ℕ → Type 0
IsNameFaultOf why text = (why ≡ fault.Memory) ⊎ (name_in text ≡ Err why)
