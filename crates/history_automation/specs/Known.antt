-- What is known of the paths of a history.
use Rattle.std.specs.Prelude.{◌≡◌, List, [], ◌∷◌, ◌++◌, Option, Some, None, map, if◌then◌else◌}
use Rattle.std.specs.List.{list_any}
use Rattle.policy_core.specs.Policy.{Policy}
use Rattle.policy_core.specs.PathTables.{base_of}
use Rattle.history_core.specs.declared.entry.Entry.{Entry}
use Rattle.history_core.specs.declared.path.Path.{Path}
use Rattle.history_core.specs.declared.path.Promoted.{Promoted}
use Rattle.history_core.specs.History.{text_of, is_same_path, promotions, paths}
use Rattle.history_automation.specs.declared.paths.KnownPath.{KnownPath}

-- promotions and paths, each in the order in which they came
pub record Known : Type 0 where
  pub promotions : List Promoted
  pub paths : List KnownPath

-- a path with its text and what its tables come to
abbrev pub known_path : Policy → Path → KnownPath
known_path policy p = record { path = p; text = text_of p; base = base_of policy p.site p.source }

-- what is known of a path that messages were promoted to
abbrev pub known_of : Policy → List Entry → Path → Option KnownPath
known_of policy h p = if list_any (is_same_path p) (paths policy h) then Some (known_path policy p) else None

-- a path comes at the end, where it is not there yet
abbrev pub with_known : Policy → List KnownPath → Path → List KnownPath
with_known policy seen p = if list_any (λ k. is_same_path p k.path) seen then seen else seen ++ known_path policy p ∷ []

-- these are the promotions of a history and its paths
pub record IsKnown (policy : Policy) (h : List Entry) (k : Known) : Type 0 where
  pub promotions : k.promotions ≡ promotions policy h
  pub paths : k.paths ≡ map (known_path policy) (paths policy h)
