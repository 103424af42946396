-- An option in front of words, as the program has it.
use Rattle.std.specs.Prelude.{ℕ, List}
use Rattle.command_words.specs.declared.options.GivenOption.{GivenOption as GivenWords}
use Rattle.command_words.specs.inside.Walk.{Front}
use denote.Ref.{Bor}

abbrev pub seen_front : GivenWords × Bor (List (List ℕ)) → Front
seen_front p = record { option = record { name = p.0.name.now; value = p.0.value.now }; rest = p.1.now }
