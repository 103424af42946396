use Rattle.std.proofs.Common.{◌≡◌, ◌<◌, ◌≤◌, ℕ, ◌*◌, ◌-◌, ◌^◌, min, arith}
use Rattle.std.proofs.Math.Pow.{pow_mono}
use Rattle.std.proofs.Math.Nat.{mul-le-mul_right}
use Rattle.history_views.proofs.messages.doubled.Goals as goal

great : (interval power : ℕ) → 0 < interval → 2 ^ 64 ≤ power → 2 ^ 64 - 1 ≡ min (interval * power) (2 ^ 64 - 1)
great interval power some much =
    let more : 1 * power ≤ interval * power = mul-le-mul_right power (omega arith) in
    omega arith

pub returns-then-times-ge64 : goal.returns-then-times-ge64
returns-then-times-ge64 c = great c.args.interval (2 ^ c.args.times) (omega arith) (pow_mono c.if-times-ge64.true)
