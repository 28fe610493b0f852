-- Bytes are accepted exactly where they are the form with its numbers written out, and a fault is at the first item that does not fit.
use Rattle.std.proofs.Common.{◌≡◌, ℕ, ◌+◌, Bool, true, false, cond, ◌&&◌, eqb, ◌⊎◌, List, [], ◌∷◌, ◌++◌, drop, ℤ, pos, negsuc, Ok, Err, Result, sym, refl, ap, ◌∙◌, subst, inl, inr, ⊎_elim, arith}
use lib.Signed.{le_z}
use Rattle.std.specs.Char.{is_ascii_digit}
use Rattle.std.specs.Fmt.{signed_decimal}
use Rattle.std.proofs.lemmas.Bool.{eq-eqb, eqb-true, eqb-false, cond-true, and_parts, true≢false, not-true}
use Rattle.network.specs.Refusals.{SaysAt}
use Rattle.network.specs.declared.refusal.Refusal.{Refusal}
use Rattle.network.specs.declared.refusal.Refusal.TheVariants.{Form}
use Rattle.lines.specs.Number.{minus, figures, width, number}
use Rattle.forms.specs.Scan.{Item, byte, num, scan, push, onward}
use Rattle.forms.specs.Written.{written, Within, Stops, Misfit, plain, ends, Accepts, Points}
use Rattle.forms.proofs.Numerals.{number_sound, number_complete, number_fault, numeral, stops_after, says_form, err_same}

taken : {X : Type 0} (b : Bool) (e : Refusal) (x : Result X Refusal) (v : X) → cond b x (Err e) ≡ Ok v → (b ≡ true) × (x ≡ Ok v)
taken true e x v h = (refl, h)
taken false e x v h = absurd (cc)

onward_ok : (r : Result ℤ Refusal) (s : Result (List ℤ) Refusal) (vs : List ℤ) → onward r s ≡ Ok vs → (v : ℤ) × (ws : List ℤ) × (r ≡ Ok v) × (s ≡ Ok ws) × (v ∷ ws ≡ vs)
onward_ok (Ok v) (Ok ws) vs h = (v, ws, refl, refl, cc)
onward_ok (Ok v) (Err e) vs h = absurd (cc)
onward_ok (Err e) s vs h = absurd (cc)

onward_err : (r : Result ℤ Refusal) (s : Result (List ℤ) Refusal) (e : Refusal) → onward r s ≡ Err e → (r ≡ Err e) ⊎ ((v : ℤ) × (r ≡ Ok v) × (s ≡ Err e))
onward_err (Ok v) (Ok ws) e h = absurd (cc)
onward_err (Ok v) (Err x) e h = inr (v, refl, cc)
onward_err (Err x) s e h = inl (cc)

nil_is : (vs : List ℤ) → ◌≡◌ {A = Result (List ℤ) Refusal} (Ok []) (Ok vs) → [] ≡ vs
nil_is vs h = cc

clash : {X : Type 0} (e : Refusal) (vs : List ℤ) → ◌≡◌ {A = Result (List ℤ) Refusal} (Err e) (Ok vs) → X
clash e vs h = absurd (cc)

pub sound : (items : List Item) (bs : List ℕ) (p : ℕ) (vs : List ℤ) → scan items bs p ≡ Ok vs → (bs ≡ written items vs) × Within items vs
sound [] [] p vs h = subst (λ l. ([] ≡ written [] l) × Within [] l) (nil_is vs h) (refl, tt)
sound [] (b ∷ bs) p vs h = clash _ vs h
sound (byte w ∷ items) [] p vs h = clash _ vs h
sound (byte w ∷ items) (b ∷ bs) p vs h =
    let t = taken (eqb b w) (Form p) _ vs h in
    let r = sound items bs (p + 1) vs t.1 in
    (ap (λ k. k ∷ bs) (eqb-true b w t.0) ∙ ap (λ l. w ∷ l) r.0, r.1)
sound (num low high ∷ items) bs p vs h =
    let o = onward_ok (number low high bs p) _ vs h in
    let n = number_sound low high bs p o.0 o.2 in
    let r = sound items (drop (width bs) bs) (p + width bs) o.1 o.3 in
    subst (λ l. (bs ≡ written (num low high ∷ items) l) × Within (num low high ∷ items) l) o.4
    (n.0 ∙ ap (λ l. signed_decimal o.0 ++ l) r.0, (n.1, n.2, r.1))

stops : (items : List Item) (vs : List ℤ) → ends items ≡ true → Stops (written items vs)
stops [] vs h = refl
stops (byte w ∷ items) vs h = not-true (is_ascii_digit w) h
stops (num low high ∷ items) vs h = absurd (true≢false (sym h))

pub complete : (items : List Item) (p : ℕ) (vs : List ℤ) → plain items ≡ true → Within items vs → scan items (written items vs) p ≡ Ok vs
complete [] p [] ok w = refl
complete [] p (v ∷ vs) ok w = absurd w
complete (byte b ∷ items) p vs ok w = cond-true (eqb b b) _ _ (eq-eqb b b refl) ∙ complete items (p + 1) vs ok w
complete (num low high ∷ items) p [] ok w = absurd w
complete (num low high ∷ items) p (v ∷ vs) ok w =
    let a = and_parts (ends items && plain items && le_z (negsuc 9999998) low) (le_z high (pos 9999999)) ok in
    let b = and_parts (ends items && plain items) (le_z (negsuc 9999998) low) a.0 in
    let c = and_parts (ends items) (plain items) b.0 in
    let bs = signed_decimal v ++ written items vs in
    let n = number_complete v low high (written items vs) p w.0 w.1 b.1 a.1 (stops items vs c.0) in
    ap (λ r. onward r (scan items (drop (width bs) bs) (p + width bs))) n.0
    ∙ ap (λ l. push v (scan items l (p + width bs))) n.1
    ∙ ap (push v) (complete items (p + width bs) vs c.1 w.2)

pub accepts : Accepts
accepts items ok bs p vs = (sound items bs p vs, λ e w. ap (λ l. scan items l p) e ∙ complete items p vs ok w)

-- faults
says_here : (p : ℕ) (e : Refusal) → ◌≡◌ {A = Result (List ℤ) Refusal} (Err (Form p)) (Err e) → SaysAt e 10 p
says_here p e h = says_form e p (err_same {X = List ℤ} (Form p) e h)

other_byte : (w b : ℕ) (bs rest : List ℕ) → eqb b w ≡ false → b ∷ bs ≡ w ∷ rest → ⊥
other_byte w b bs rest t h = eqb-false b w t (cc)

none_byte : (w : ℕ) (rest : List ℕ) → [] ≡ w ∷ rest → ⊥
none_byte w rest h = cc

pub points : Points
points [] [] p e h = absurd (cc)
points [] (b ∷ bs) p e h = (omega arith, says_here p e h)
points (byte w ∷ items) [] p e h = inl (λ rest. none_byte w rest, says_here p e h)
points (byte w ∷ items) (b ∷ bs) p e h =
    elim (eqb b w) as (λ t. eqb b w ≡ t → cond t (scan items bs (p + 1)) (Err (Form p)) ≡ Err e → Misfit (byte w ∷ items) (b ∷ bs) p e) [
      | true ↦ λ t q. inr (bs, ap (λ k. k ∷ bs) (eqb-true b w t), points items bs (p + 1) e q)
      | false ↦ λ t q. inl (λ rest. other_byte w b bs rest t, says_here p e q)
    ] refl h
points (num low high ∷ items) bs p e h =
    ⊎_elim
    (λ q. inl (minus bs, figures bs, drop (width bs) bs, numeral bs, number_fault low high bs p e q))
    (λ q. let n = number_sound low high bs p q.0 q.1 in
    inr (q.0, drop (width bs) bs, n.0, stops_after bs, n.1, n.2, subst (λ k. Misfit items (drop (width bs) bs) (p + k) e) n.3 (points items (drop (width bs) bs) (p + width bs) e q.2)))
    (onward_err (number low high bs p) _ e h)
