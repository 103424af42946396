-- What is asked of an order.
use Rattle.std.specs.Prelude.{ℕ, Bool, List, Option, option_map, find}
use Rattle.policy_core.specs.declared.orders.Order.{Order}
use Rattle.policy_core.specs.LiveOrders.{holds, bounces, halts}
use Rattle.suspensions.specs.declared.given.Given.{Given}
use Rattle.suspensions.specs.declared.question.Question.{Question}
use Rattle.suspensions.specs.declared.question.Question.TheVariants.{Holds, Bounces, Halts}

abbrev pub is_met : Question → Order → Bool
is_met (Holds name) order = holds order name.now
is_met (Bounces name) order = bounces order name.now
is_met (Halts text) order = halts order text.now

-- the number of the first order of which the answer is yes
abbrev pub first_met : Question → List Given → Option ℕ
first_met question book = option_map (λ given. given.number) (find (λ given. is_met question given.order) book)
