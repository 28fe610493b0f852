-- One byte more than a text may have settles what is answered to all of it.
use Rattle.std.proofs.Common.{◌≡◌, ℕ, suc, List, length, take, Some, None, Option, IfSome, refl, subst, inl, inr, arith}
use Rattle.std.proofs.lemmas.Bool.{cases_lt}
use Rattle.std.proofs.lemmas.List.{take_all, length-take-le}
use Rattle.std.specs.Option.{option_map}
use Rattle.network.specs.Limits.{max_nodes, max_arcs, max_text}
use Rattle.network.specs.declared.refusal.Refusal.TheVariants.{TextSize}
use Rattle.text.specs.Refused.{too_long}
use Rattle.text.proofs.Settled.{refused_one}
use Rattle.planner.specs.Answer.{Answers, refused}

enough : (text bytes : List ℕ) → Answers (take (suc max_text) text) bytes → Answers text bytes
enough text bytes a = elim (cases_lt max_text (length text)) [
  | inr short ↦ subst (λ t. Answers t bytes) (take_all (suc max_text) text (omega arith)) a
  | inl long ↦
      let n : length (take (suc max_text) text) ≡ suc max_text = length-take-le (suc max_text) text long in
      record {
        decided = refused TextSize (too_long long (refl, refl));
        accounts = λ n m stocks roads short c. absurd (omega arith);
        declines = λ e h. let one = refused_one text max_arcs max_nodes e TextSize h (too_long long (refl, refl)) in a.declines e (too_long (omega arith) (rw one (refl, refl)));
      }
]

-- where the bytes of a reader are known, and so many of them were read
pub settled : (known : Option (List ℕ)) (read bytes : List ℕ) → IfSome (option_map (take (suc max_text)) known) (λ xs. read ≡ xs) → Answers read bytes → IfSome known (λ text. Answers text bytes)
settled None read bytes h a = h
settled (Some text) read bytes h a = enough text bytes (subst (λ t. Answers t bytes) h a)
