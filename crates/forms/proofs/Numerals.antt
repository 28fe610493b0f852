-- A number is read exactly where it stands as it is written, and its fault is what is wrong with it.
use Rattle.std.proofs.Common.{◌≡◌, ℕ, zero, suc, ◌+◌, ◌^◌, ◌<◌, ◌≤◌, Bool, true, false, cond, ◌&&◌, ◌||◌, eqb, ltb, ◌⊎◌, List, [], ◌∷◌, ◌++◌, length, get_or, take, drop, ℤ, pos, negsuc, neg_ℤ, ◌≤ℤ◌, Ok, Err, decimal, Result, sym, refl, ap, ◌∙◌, subst, inl, inr, ⊎_elim, append_assoc, zero-add, one-add, arith}
use lib.Signed.{le_z}
use Rattle.std.specs.Char.{is_ascii_digit}
use Rattle.std.specs.Int.{IsInRange}
use Rattle.std.specs.Fmt.{signed_decimal}
use Rattle.std.proofs.lemmas.Int.{ints}
use Rattle.std.proofs.lemmas.Bool.{eq-eqb, ne_eqb, eqb-true, cond-true, cond-false, cases_lt, and_parts, and_from, ltb-true, ltb-false, le-ltb, or_parts, or_cases, true≢false}
use Rattle.std.proofs.lemmas.Bool.Decides.{nat_tests}
use Rattle.std.proofs.lemmas.List.{take-append-drop, get_or_append_left, take_at, drop_at, length-take-le}
use Rattle.std.proofs.lemmas.List.Sums.{prefix_len-le-length}
use Rattle.std.proofs.lemmas.Str.Parse.{digits_value_short}
use Rattle.std.proofs.lemmas.Fmt.{decimal-digits_value, decimal_nonempty, first_decimal, length-decimal-le, decimal_digit, digits_decimal, digits_value-decimal}
use Rattle.network.proofs.Tested.{test_le, le_test}
use Rattle.network.specs.declared.refusal.Refusal.{Refusal}
use Rattle.network.specs.declared.refusal.Refusal.TheVariants.{Form, Number}
use Rattle.network.specs.Refusals.{SaysAt}
use Rattle.lines.specs.Number.{max_digits, run, judged, continued, AllDigits, padded, valued, ranged, minus, unsigned, figures, width, number}
use Rattle.forms.specs.Written.{Stops, sign, Numeral, Padded, NumberFault, no_digit, padding, many_digits, out_of_range}
use Rattle.lines.proofs.Figures.{own, front_digits}

digit_is : (b : ℕ) → IsInRange 48 57 b → is_ascii_digit b ≡ true
digit_is b h = grind (arith, nat_tests)

-- a cond that came out as Ok
past : {X : Type 0} (b : Bool) (e : Refusal) (x : Result X Refusal) (v : X) → cond b (Err e) x ≡ Ok v → (b ≡ false) × (x ≡ Ok v)
past true e x v h = absurd (cc)
past false e x v h = (refl, h)

kept : {X : Type 0} (b : Bool) (e : Refusal) (x v : X) → cond b (Ok x) (Err e) ≡ Ok v → (b ≡ true) × (x ≡ v)
kept true e x v h = (refl, cc)
kept false e x v h = absurd (cc)

-- what an accepted number says of its digits
record Good (m : Bool) (ds : List ℕ) (low high v : ℤ) : Type 0 where
  some : 0 < length ds
  tight : padded m ds ≡ false
  short : length ds ≤ max_digits
  is : valued m (continued 0 ds) ≡ v
  above : le_z low v ≡ true
  below : le_z v high ≡ true

positive : (n : ℕ) → eqb n 0 ≡ false → 0 < n
positive n h = grind (arith, nat_tests)

good : (m : Bool) (ds : List ℕ) (low high v : ℤ) (p : ℕ) → judged m ds low high p ≡ Ok v → Good m ds low high v
good m ds low high v p h =
    let a = past (eqb (length ds) 0) (Form (p + cond m 1 0)) _ v h in
    let b = past (padded m ds) (Form p) _ v a.1 in
    let c = past (ltb max_digits (length ds)) (Number p) _ v b.1 in
    let w = valued m (continued 0 ds) in
    let d = kept (le_z low w && le_z w high) (Number p) w v c.1 in
    let r = and_parts (le_z low w) (le_z w high) d.0 in
    record {
      some = positive (length ds) a.0;
      tight = b.0;
      short = ltb-false max_digits (length ds) c.0;
      is = d.1;
      above = ap (λ z. le_z low z) (sym d.1) ∙ r.0;
      below = ap (λ z. le_z z high) (sym d.1) ∙ r.1;
    }

judged_good : (m : Bool) (ds : List ℕ) (low high v : ℤ) (p : ℕ) → Good m ds low high v → judged m ds low high p ≡ Ok v
judged_good m ds low high v p g =
    let some = g.some in
    let short = g.short in
    cond-false (eqb (length ds) 0) _ _ (ne_eqb (length ds) 0 (λ e. omega arith))
    ∙ cond-false (padded m ds) _ _ g.tight
    ∙ cond-false (ltb max_digits (length ds)) _ _ (le-ltb max_digits (length ds) short)
    ∙ ap (ranged low high p) g.is
    ∙ ap (λ b. cond (b && le_z v high) (Ok v) (Err (Number p))) g.above
    ∙ ap (λ b. cond b (Ok v) (Err (Number p))) g.below

-- sign, digits and rest
split_cons : (b : ℕ) (u : List ℕ) (t : Bool) → eqb b 45 ≡ t → b ∷ u ≡ sign t ++ (take (run (drop (cond t 1 0) (b ∷ u))) (drop (cond t 1 0) (b ∷ u)) ++ drop (cond t 1 0 + run (drop (cond t 1 0) (b ∷ u))) (b ∷ u))
split_cons b u true e = rw one-add (ap (λ l. b ∷ l) (sym (take-append-drop (run u) u)) ∙ ap (λ k. k ∷ (take (run u) u ++ drop (run u) u)) (eqb-true b 45 e))
split_cons b u false e = rw zero-add (sym (take-append-drop (run (b ∷ u)) (b ∷ u)))

split : (bs : List ℕ) → bs ≡ sign (minus bs) ++ (figures bs ++ drop (width bs) bs)
split [] = refl
split (b ∷ u) = split_cons b u (eqb b 45) refl

run_stops : (bs : List ℕ) → Stops (drop (run bs) bs)
run_stops [] = refl
run_stops (b ∷ bs) =
    elim (is_ascii_digit b) as (λ t. is_ascii_digit b ≡ t → Stops (drop (cond t (1 + run bs) 0) (b ∷ bs))) [
      | true ↦ λ e. rw one-add (run_stops bs)
      | false ↦ λ e. e
    ] refl

stops_cons : (b : ℕ) (u : List ℕ) (t : Bool) → Stops (drop (cond t 1 0 + run (drop (cond t 1 0) (b ∷ u))) (b ∷ u))
stops_cons b u true = rw one-add (run_stops u)
stops_cons b u false = rw zero-add (run_stops (b ∷ u))

pub stops_after : (bs : List ℕ) → Stops (drop (width bs) bs)
stops_after [] = refl
stops_after (b ∷ u) = stops_cons b u (eqb b 45)

pub numeral : (bs : List ℕ) → Numeral bs (minus bs) (figures bs) (drop (width bs) bs)
numeral bs = record { first = refl; parts = split bs; digits = front_digits (unsigned bs); whole = stops_after bs }

-- digits that are not padded are what is written of their value
tight_parts : (m : Bool) (ds : List ℕ) → padded m ds ≡ false → get_or ds 0 0 ≡ 48 → (m ≡ false) × (length ds ≤ 1)
tight_parts m ds tight e =
    let o = or_parts m (ltb 1 (length ds)) (ap (λ b. b && (m || ltb 1 (length ds))) (sym (eq-eqb (get_or ds 0 0) 48 e)) ∙ tight) in
    (o.0, ltb-false 1 (length ds) o.1)

spelt : (m : Bool) (ds : List ℕ) → AllDigits ds → 0 < length ds → padded m ds ≡ false → length ds ≤ max_digits → decimal (continued 0 ds) ≡ ds
spelt m ds all some tight short =
    decimal-digits_value own ds all some (λ e. let o = (tight_parts m ds tight e).1 in omega arith) (omega (arith, digits_value_short own ds 7 all short))

negated : (n : ℕ) (ds : List ℕ) → decimal n ≡ ds → padded true ds ≡ false → signed_decimal (neg_ℤ (pos n)) ≡ 45 ∷ ds
negated zero ds e tight =
    absurd (let f : get_or ds 0 0 ≡ 48 = ap (λ l. get_or l 0 0) (sym e ∙ decimal_digit 0 (omega arith)) in true≢false (tight_parts true ds tight f).0)
negated (suc n) ds e tight = ap (λ l. 45 ∷ l) e

signed_is : (m : Bool) (ds : List ℕ) (low high v : ℤ) → AllDigits ds → Good m ds low high v → signed_decimal v ≡ sign m ++ ds
signed_is true ds low high v all g =
    ap signed_decimal (sym g.is) ∙ negated (continued 0 ds) ds (spelt true ds all g.some g.tight g.short) g.tight
signed_is false ds low high v all g =
    ap signed_decimal (sym g.is) ∙ spelt false ds all g.some g.tight g.short

wide : (m : Bool) (u : List ℕ) → cond m 1 0 + run u ≡ length (sign m ++ take (run u) u)
wide true u = rw one-add (ap suc (sym (length-take-le (run u) u (prefix_len-le-length is_ascii_digit u))))
wide false u = rw zero-add (sym (length-take-le (run u) u (prefix_len-le-length is_ascii_digit u)))

-- what is read as a number is how the number is written
pub number_sound : (low high : ℤ) (bs : List ℕ) (p : ℕ) (v : ℤ) → number low high bs p ≡ Ok v
    → (bs ≡ signed_decimal v ++ drop (width bs) bs) × (low ≤ℤ v) × (v ≤ℤ high) × (width bs ≡ length (signed_decimal v))
number_sound low high bs p v h =
    let g = good (minus bs) (figures bs) low high v p h in
    let w = signed_is (minus bs) (figures bs) low high v (front_digits (unsigned bs)) g in (
      split bs ∙ sym (append_assoc (sign (minus bs)) (figures bs) (drop (width bs) bs)) ∙ ap (λ l. l ++ drop (width bs) bs) (sym w),
      test_le g.above,
      test_le g.below,
      wide (minus bs) (unsigned bs) ∙ ap length (sym w),
    )

pub number_within : (low high : ℤ) (bs : List ℕ) (p : ℕ) (v : ℤ) → number low high bs p ≡ Ok v → (low ≤ℤ v) × (v ≤ℤ high)
number_within low high bs p v h = let s = number_sound low high bs p v h in (s.1, s.2)

-- a number that is written is read
run_front : (ds tail : List ℕ) → AllDigits ds → Stops tail → run (ds ++ tail) ≡ length ds
run_front [] [] all stop = refl
run_front [] (t ∷ tail) all stop = cond-false (is_ascii_digit t) _ _ stop
run_front (d ∷ ds) tail all stop =
    cond-true (is_ascii_digit d) _ _ (digit_is d (all 0 (omega arith))) ∙ ap (λ k. 1 + k) (run_front ds tail (λ i l. all (suc i) (omega arith)) stop) ∙ one-add (length ds)

number_whole : (m : Bool) (ds tail : List ℕ) (low high v : ℤ) (p : ℕ) → AllDigits ds → Good m ds low high v → Stops tail
    → (number low high (sign m ++ (ds ++ tail)) p ≡ Ok v) × (drop (width (sign m ++ (ds ++ tail))) (sign m ++ (ds ++ tail)) ≡ tail)
number_whole true ds tail low high v p all g stop =
    let r = run_front ds tail all stop in (
      ap (λ k. judged true (take k (ds ++ tail)) low high p) r ∙ ap (λ l. judged true l low high p) (take_at ds tail (length ds) refl) ∙ judged_good true ds low high v p g,
      ap (λ k. drop (1 + k) (45 ∷ (ds ++ tail))) r ∙ rw one-add (drop_at ds tail (length ds) refl),
    )
number_whole false ds tail low high v p all g stop =
    let r = run_front ds tail all stop in
    let bs = ds ++ tail in
    let m : minus bs ≡ false = ne_eqb _ 45 (λ e. omega (arith, get_or_append_left ds tail 0 0 g.some, all 0 g.some)) in (
      ap (λ b. judged b (take (run (drop (cond b 1 0) bs)) (drop (cond b 1 0) bs)) low high p) m
          ∙ ap (λ k. judged false (take k (ds ++ tail)) low high p) r ∙ ap (λ l. judged false l low high p) (take_at ds tail (length ds) refl) ∙ judged_good false ds low high v p g,
      ap (λ b. drop (cond b 1 0 + run (drop (cond b 1 0) bs)) bs) m ∙ ap (λ k. drop (0 + k) bs) r ∙ rw zero-add (drop_at ds tail (length ds) refl),
    )

tight_zero : (n : ℕ) → n ≡ 0 → padded false (decimal n) ≡ false
tight_zero n e = ap (λ k. padded false (decimal k)) e ∙ ap (padded false) (decimal_digit 0 (omega arith))

tight_first : (m : Bool) (n : ℕ) → 0 < n → n < 10 ^ max_digits → padded m (decimal n) ≡ false
tight_first m n h k =
    let f = first_decimal n h (omega arith) in
    ap (λ b. b && (m || ltb 1 (length (decimal n)))) (ne_eqb (get_or (decimal n) 0 0) 48 (λ e. omega arith))

good_pos : (n : ℕ) (low high : ℤ) → n < 10 ^ max_digits → le_z low (pos n) ≡ true → le_z (pos n) high ≡ true → Good false (decimal n) low high (pos n)
good_pos n low high k a b = record {
  some = decimal_nonempty n (omega arith);
  tight = ⊎_elim (λ h. tight_first false n h k) (λ h. tight_zero n (omega arith)) (cases_lt 0 n);
  short = length-decimal-le max_digits n (omega arith) k (omega arith);
  is = ap pos (digits_value-decimal own n (omega arith));
  above = a;
  below = b;
}

good_neg : (n : ℕ) (low high : ℤ) → suc n < 10 ^ max_digits → le_z low (negsuc n) ≡ true → le_z (negsuc n) high ≡ true → Good true (decimal (suc n)) low high (negsuc n)
good_neg n low high k a b = record {
  some = decimal_nonempty (suc n) (omega arith);
  tight = tight_first true (suc n) (omega arith) k;
  short = length-decimal-le max_digits (suc n) (omega arith) k (omega arith);
  is = ap (λ z. neg_ℤ (pos z)) (digits_value-decimal own (suc n) (omega arith));
  above = a;
  below = b;
}

pub number_complete : (v low high : ℤ) (tail : List ℕ) (p : ℕ) → low ≤ℤ v → v ≤ℤ high → le_z (negsuc 9999998) low ≡ true → le_z high (pos 9999999) ≡ true → Stops tail
    → (number low high (signed_decimal v ++ tail) p ≡ Ok v) × (drop (width (signed_decimal v ++ tail)) (signed_decimal v ++ tail) ≡ tail)
number_complete (pos n) low high tail p a b c d stop =
    let small : n < 10 ^ max_digits = grind (arith, ints) in
    number_whole false (decimal n) tail low high (pos n) p (digits_decimal own n (omega arith)) (good_pos n low high small (le_test a) (le_test b)) stop
number_complete (negsuc n) low high tail p a b c d stop =
    let small : suc n < 10 ^ max_digits = grind (arith, ints) in
    number_whole true (decimal (suc n)) tail low high (negsuc n) p (digits_decimal own (suc n) (omega arith)) (good_neg n low high small (le_test a) (le_test b)) stop

-- a number's fault is what is wrong with it
pub err_same : {X : Type 0} (a b : Refusal) → ◌≡◌ {A = Result X Refusal} (Err a) (Err b) → a ≡ b
err_same a b h = cc

padded_says : (m : Bool) (ds : List ℕ) → padded m ds ≡ true → Padded m ds
padded_says m ds h =
    let a = and_parts (eqb (get_or ds 0 0) 48) (m || ltb 1 (length ds)) h in
    (eqb-true (get_or ds 0 0) 48 a.0, ⊎_elim (λ t. inl t) (λ t. inr (ltb-true 1 (length ds) t)) (or_cases m (ltb 1 (length ds)) a.1))

not_padded : (m : Bool) (ds : List ℕ) → padded m ds ≡ false → Padded m ds → ⊥
not_padded m ds h (z, k) =
    let t = tight_parts m ds h z in
    ⊎_elim (λ e. true≢false (sym e ∙ t.0)) (λ l. omega (arith, t.1)) k

sign_length : (m : Bool) (p : ℕ) → p + cond m 1 0 ≡ p + length (sign m)
sign_length true p = refl
sign_length false p = refl

outside : (low high v : ℤ) → (le_z low v && le_z v high) ≡ false → (low ≤ℤ v) × (v ≤ℤ high) → ⊥
outside low high v h (a, b) = true≢false (sym (and_from (le_z low v) (le_z v high) (le_test a) (le_test b)) ∙ h)

pub says_form : (e : Refusal) (p : ℕ) → Form p ≡ e → SaysAt e 10 p
says_form e p h = subst (λ x. SaysAt x 10 p) h (refl, refl)

says_number : (e : Refusal) (p : ℕ) → Number p ≡ e → SaysAt e 11 p
says_number e p h = subst (λ x. SaysAt x 11 p) h (refl, refl)

ranged_fault : (low high v : ℤ) (p : ℕ) (e : Refusal) → ranged low high p v ≡ Err e → ((low ≤ℤ v) × (v ≤ℤ high) → ⊥) × SaysAt e 11 p
ranged_fault low high v p e h =
    elim (le_z low v && le_z v high) as (λ t. (le_z low v && le_z v high) ≡ t → cond t (Ok v) (Err (Number p)) ≡ Err e → ((low ≤ℤ v) × (v ≤ℤ high) → ⊥) × SaysAt e 11 p) [
      | true ↦ λ t q. absurd (cc)
      | false ↦ λ t q. (outside low high v t, says_number e p (err_same {X = ℤ} (Number p) e q))
    ] refl h

-- which way a cond came to an Err
way : {X : Type 0} (b : Bool) (x y : Result X Refusal) (e : Refusal) → cond b x y ≡ Err e → ((b ≡ true) × (x ≡ Err e)) ⊎ ((b ≡ false) × (y ≡ Err e))
way true x y e h = inl (refl, h)
way false x y e h = inr (refl, h)

pub judged_fault : (low high : ℤ) (m : Bool) (ds : List ℕ) (p : ℕ) (e : Refusal) → judged m ds low high p ≡ Err e → NumberFault low high m ds p e
judged_fault low high m ds p e h =
    ⊎_elim
    (λ a. no_digit (eqb-true (length ds) 0 a.0) (subst (λ k. SaysAt e 10 k) (sign_length m p) (says_form e _ (err_same {X = ℤ} _ e a.1))))
    (λ a. let some = positive (length ds) a.0 in
    ⊎_elim
    (λ b. padding some (padded_says m ds b.0) (says_form e p (err_same {X = ℤ} _ e b.1)))
    (λ b. ⊎_elim
    (λ d. many_digits (not_padded m ds b.0) (ltb-true max_digits (length ds) d.0) (says_number e p (err_same {X = ℤ} _ e d.1)))
    (λ d. let r = ranged_fault low high (valued m (continued 0 ds)) p e d.1 in out_of_range some (not_padded m ds b.0) (ltb-false max_digits (length ds) d.0) r.0 r.1)
    (way (ltb max_digits (length ds)) _ _ e b.1))
    (way (padded m ds) _ _ e a.1))
    (way (eqb (length ds) 0) _ _ e h)

pub number_fault : (low high : ℤ) (bs : List ℕ) (p : ℕ) (e : Refusal) → number low high bs p ≡ Err e → NumberFault low high (minus bs) (figures bs) p e
number_fault low high bs p e h = judged_fault low high (minus bs) (figures bs) p e h
