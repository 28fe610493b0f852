-- What one step of a reader does to a scan.
use Rattle.std.proofs.Common.{◌≡◌, ℕ, ◌+◌, ◌-◌, List, [], ◌∷◌, ◌++◌, length, take, drop, ℤ, IsErrAnd, Ok, Err, Result, sym, refl, ap, ◌∙◌, append_assoc, append-nil}
use Rattle.std.proofs.lemmas.List.{take_rest}
use Rattle.network.specs.declared.refusal.Refusal.{Refusal}
use Rattle.lines.specs.Number.{number, width}
use Rattle.forms.specs.Scan.{Item, num, scan, push, onward, pushes, Reads, Scanned, by}

-- one item
pub number_taken : (low high : ℤ) (bs : List ℕ) (p n : ℕ) (v : ℤ) (more : List Item) → number low high bs p ≡ Ok v → n ≡ width bs
    → scan (num low high ∷ more) bs p ≡ push v (scan more (take (length bs - n) (drop n bs)) (p + n))
number_taken low high bs p n v more e w =
    ap (λ r. onward r (scan more (drop (width bs) bs) (p + width bs))) e
    ∙ ap (λ k. push v (scan more (drop k bs) (p + k))) (sym w)
    ∙ ap (λ l. push v (scan more l (p + n))) (sym (take_rest bs n))

-- one reading after another
pushes_append : (vs ws : List ℤ) (r : Result (List ℤ) Refusal) → pushes (vs ++ ws) r ≡ pushes vs (pushes ws r)
pushes_append [] ws r = refl
pushes_append (v ∷ vs) ws r = ap (push v) (pushes_append vs ws r)

pushes_err : (vs : List ℤ) (e : Refusal) → pushes vs (Err e) ≡ Err e
pushes_err [] e = refl
pushes_err (v ∷ vs) e = ap (push v) (pushes_err vs e)

pushes_ok : (vs : List ℤ) → pushes vs (Ok []) ≡ Ok vs
pushes_ok [] = refl
pushes_ok (v ∷ vs) = ap (push v) (pushes_ok vs)

pub then : {i₁ i₂ : List Item} {bs b₁ b₂ : List ℕ} {p p₁ p₂ : ℕ} {vs ws : List ℤ}
    → Reads i₁ bs p (Ok vs) b₁ p₁ → Reads i₂ b₁ p₁ (Ok ws) b₂ p₂ → Reads (i₁ ++ i₂) bs p (Ok (vs ++ ws)) b₂ p₂
then {i₁} {i₂} {bs} {b₁} {b₂} {p} {p₁} {p₂} {vs} {ws} h k = record {
  is = λ more. ap (λ l. scan l bs p) (append_assoc i₁ i₂ more) ∙ h.is (i₂ ++ more) ∙ ap (pushes vs) (k.is more) ∙ sym (pushes_append vs ws (scan more b₂ p₂));
}

-- a fault after what was read
pub fails : {i₁ i₂ : List Item} {bs b₁ b₂ : List ℕ} {p p₁ p₂ : ℕ} {vs : List ℤ} {e : Refusal}
    → Reads i₁ bs p (Ok vs) b₁ p₁ → Reads i₂ b₁ p₁ (Err e) b₂ p₂ → Reads (i₁ ++ i₂) bs p (Err e) b₂ p₂
fails {i₁} {i₂} {bs} {b₁} {b₂} {p} {p₁} {p₂} {vs} {e} h k = record {
  is = λ more. ap (λ l. scan l bs p) (append_assoc i₁ i₂ more) ∙ h.is (i₂ ++ more) ∙ ap (pushes vs) (k.is more) ∙ pushes_err vs e;
}

-- the exit of a `?`: the fault is the form's, whatever items follow
pub refused : {X : Type 0} (lists : X → List ℤ) (rest : List Item) {items : List Item} {bs b₁ after : List ℕ} {p p₁ to : ℕ} {e : Refusal} (r : Result X Refusal)
    → IsErrAnd r (λ y. y ≡ e) → Reads items bs p (Err e) b₁ p₁ → Reads (items ++ rest) bs p (by lists r) after to
refused lists rest (Ok x) h s = absurd h
refused lists rest {items} {bs} {b₁} {after} {p} {p₁} {to} {e} (Err y) h s = record {
  is = λ more. ap (λ l. scan l bs p) (append_assoc items rest more) ∙ s.is (rest ++ more) ∙ ap Err (sym h);
}

-- the whole of a line
pub line_fault : {X : Type 0} (lists : X → List ℤ) (rest : List Item) {items : List Item} {bs b₁ : List ℕ} {p p₁ : ℕ} {e : Refusal} (r : Result X Refusal)
    → IsErrAnd r (λ y. y ≡ e) → Reads items bs p (Err e) b₁ p₁ → Scanned (items ++ rest) bs p (by lists r)
line_fault lists rest (Ok x) h s = absurd h
line_fault lists rest (Err y) h s = record { is = s.is rest ∙ ap Err (sym h) }

pub line_more : {X : Type 0} (lists : X → List ℤ) {items : List Item} {bs b₁ : List ℕ} {p p₁ : ℕ} {vs : List ℤ} {e : Refusal} (r : Result X Refusal)
    → IsErrAnd r (λ y. y ≡ e) → Reads items bs p (Ok vs) b₁ p₁ → scan [] b₁ p₁ ≡ Err e → Scanned items bs p (by lists r)
line_more lists (Ok x) h s t = absurd h
line_more lists {items} {bs} {b₁} {p} {p₁} {vs} {e} (Err y) h s t =
    record { is = ap (λ l. scan l bs p) (sym (append-nil items)) ∙ s.is [] ∙ ap (pushes vs) t ∙ pushes_err vs e ∙ ap Err (sym h) }

pub line_done : {items : List Item} {bs b₁ : List ℕ} {p p₁ : ℕ} {vs : List ℤ}
    → Reads items bs p (Ok vs) b₁ p₁ → scan [] b₁ p₁ ≡ Ok [] → Scanned items bs p (Ok vs)
line_done {items} {bs} {b₁} {p} {p₁} {vs} s t =
    record { is = ap (λ l. scan l bs p) (sym (append-nil items)) ∙ s.is [] ∙ ap (pushes vs) t ∙ pushes_ok vs }
