-- Number and place tell which refusal it is.
use Rattle.std.proofs.Common.{◌≡◌, ℕ, cond, eqb, Some, None, Option, sym, refl, ap, ◌∙◌}
use Rattle.network.specs.Refusals.{number_of, place_of, Says, SaysAt}
use Rattle.network.specs.declared.refusal.Refusal.{Refusal}
use Rattle.network.specs.declared.refusal.Refusal.TheVariants.{NoSuchArc, CapRange, CapsFull, Weights, FlowRow, PriceRow, WorkRow, NoFlow, TextSize, Form, Number, Impassable, NamedTwice, TextRows, LineRow}

-- the refusal of a number and a place
abbrev named : ℕ → Option ℕ → Refusal
named k None =
    cond (eqb k 1) NoSuchArc
    (cond (eqb k 2) CapRange
    (cond (eqb k 3) CapsFull
    (cond (eqb k 4) Weights
    (cond (eqb k 5) FlowRow
    (cond (eqb k 6) PriceRow
    (cond (eqb k 7) WorkRow
    (cond (eqb k 8) NoFlow
    (cond (eqb k 9) TextSize
    (cond (eqb k 14) TextRows
    LineRow)))))))))
named k (Some p) = cond (eqb k 10) (Form p) (cond (eqb k 11) (Number p) (cond (eqb k 12) (Impassable p) (NamedTwice p)))

named_back : (e : Refusal) → named (number_of e) (place_of e) ≡ e
named_back NoSuchArc = refl
named_back CapRange = refl
named_back CapsFull = refl
named_back Weights = refl
named_back FlowRow = refl
named_back PriceRow = refl
named_back WorkRow = refl
named_back NoFlow = refl
named_back TextSize = refl
named_back (Form p) = refl
named_back (Number p) = refl
named_back (Impassable p) = refl
named_back (NamedTwice p) = refl
named_back TextRows = refl
named_back LineRow = refl

told_apart : (e f : Refusal) → number_of e ≡ number_of f → place_of e ≡ place_of f → e ≡ f
told_apart e f n p = sym (named_back e) ∙ ap (λ k. named k (place_of e)) n ∙ ap (named (number_of f)) p ∙ named_back f

pub says_one : (e f : Refusal) (k : ℕ) → Says e k → Says f k → e ≡ f
says_one e f k a b = told_apart e f (a.0 ∙ sym b.0) (a.1 ∙ sym b.1)

pub says_at_one : (e f : Refusal) (k p : ℕ) → SaysAt e k p → SaysAt f k p → e ≡ f
says_at_one e f k p a b = told_apart e f (a.0 ∙ sym b.0) (a.1 ∙ sym b.1)
