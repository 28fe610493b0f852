-- The line of a refusal.
use Rattle.std.specs.Prelude.{ℕ, List, [], ◌∷◌, ◌++◌}
use Rattle.network.specs.Refusals.{refusal_form}
use Rattle.network.specs.declared.refusal.Refusal.{Refusal}

-- `(refused K)` or `(refused K P)`, and byte 10
abbrev pub refusal_line : Refusal → List ℕ
refusal_line e = refusal_form e ++ (10 ∷ [])
