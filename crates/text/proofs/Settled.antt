-- A text is a consignment or has a first fault, and each in one way.
use Rattle.std.proofs.Common.{◌≡◌, ℕ, ◌+◌, ◌<◌, ◌≤◌, cond, ◌||◌, eqb, ltb, ◌⊎◌, List, [], ◌∷◌, ◌++◌, length, get_or, drop, ℤ, pos, nat_abs, Some, None, Ok, Err, Option, Result, sym, refl, ap, ◌∙◌, subst, inl, inr, ⊎_elim, arith}
use Rattle.std.specs.Option.{option_map}
use Rattle.std.proofs.ByRecursion.{All-from_get_or}
use Rattle.std.proofs.lemmas.List.{take_all, ext_get_or}
use Rattle.std.proofs.lemmas.Bool.{cond-true, cond-false, ne_eqb, lt-ltb, le-ltb, or_left, or_right, or_from}
use Rattle.network.specs.Limits.{max_text}
use Rattle.network.specs.declared.refusal.Refusal.{Refusal}
use Rattle.network.specs.declared.refusal.Refusal.TheVariants.{Form, TextSize, TextRows}
use Rattle.network.specs.declared.road.Road.{Road}
use Rattle.network.proofs.Refusals.{says_one, says_at_one}
use Rattle.lines.specs.Line.{LineAt, NoLine}
use Rattle.forms.specs.Scan.{naturals}
use Rattle.text.specs.declared.sizes.Sizes.{Sizes}
use Rattle.text.specs.Consignment.{net_form, ended, Sized, IsConsignment, stock_of}
use Rattle.text.specs.Refused.{Begun, LineFault, Refused, too_long, no_first, bad_first, short_rows, no_end, bad_line}
use Rattle.text.specs.Drafts as drafts
use Rattle.text.specs.Drafts.{Stopped}
use Rattle.text.specs.Reader.{Filled, Outcome, Answered}
use Rattle.text.proofs.Judge.{first, first_good, first_bad, judge, judge_bad}
use Rattle.text.proofs.Cuts.{Unbroken, net_unbroken, line_is, line_there, line_parts, line_unbroken, append_ended}
use Rattle.text.proofs.Meets.{Entry, form_of, good_unbroken, Next, next_good, next_judged, before, equal, after, meeting, begun_head}

ok_not_err : {X : Type 0} (x : X) (e : Refusal) → ◌≡◌ {A = Result X Refusal} (Ok x) (Err e) → ⊥
ok_not_err x e h = cc

err_one : {X : Type 0} (e f : Refusal) → ◌≡◌ {A = Result X Refusal} (Err e) (Err f) → e ≡ f
err_one e f h = cc

-- the first line, computed
abbrev first_line : List ℕ → Option (List ℕ)
first_line [] = None
first_line (b ∷ bs) = cond (eqb b 10) (Some []) (option_map (λ l. b ∷ l) (first_line bs))

first_some : (form x : List ℕ) → Unbroken form → first_line (form ++ (10 ∷ x)) ≡ Some form
first_some [] x h = refl
first_some (b ∷ form) x h = cond-false (eqb b 10) _ _ (ne_eqb b 10 h.each.0) ∙ ap (option_map (λ l. b ∷ l)) (first_some form x (record { each = h.each.1 }))

first_none : (bs : List ℕ) → Unbroken bs → first_line bs ≡ None
first_none [] h = refl
first_none (b ∷ bs) h = cond-false (eqb b 10) _ _ (ne_eqb b 10 h.each.0) ∙ ap (option_map (λ l. b ∷ l)) (first_none bs (record { each = h.each.1 }))

-- what the text comes to as far as the rows' sizes, computed
abbrev nth : List ℤ → ℕ → ℕ
nth vs i = nat_abs (get_or vs i (pos 0))

abbrev rows : ℕ → ℕ → Result (List ℤ) Refusal → Result (ℕ × ℕ) Refusal
rows a b (Err e) = Err e
rows a b (Ok vs) = cond (ltb a (nth vs 1) || ltb b (nth vs 0)) (Err TextRows) (Ok (nth vs 0, nth vs 1))

abbrev lined : ℕ → ℕ → ℕ → Option (List ℕ) → Result (ℕ × ℕ) Refusal
lined len a b None = Err (Form len)
lined len a b (Some form) = rows a b (first form)

abbrev opening : List ℕ → ℕ → ℕ → Result (ℕ × ℕ) Refusal
opening text a b = cond (ltb max_text (length text)) (Err TextSize) (lined (length text) a b (first_line text))

opens : (text : List ℕ) (a b : ℕ) (o : Option (List ℕ)) → length text ≤ max_text → first_line text ≡ o → opening text a b ≡ lined (length text) a b o
opens text a b o short e = cond-false (ltb max_text (length text)) _ _ (le-ltb max_text (length text) short) ∙ ap (lined (length text) a b) e

headed : (text : List ℕ) (a b n m : ℕ) (x : List ℕ) → length text ≤ max_text → Sized n m → text ≡ ended (net_form n m) ++ x → opening text a b ≡ rows a b (Ok (naturals (n, m)))
headed text a b n m x short s e =
    opens text a b (Some (net_form n m)) short (ap first_line (e ∙ append_ended (net_form n m) x) ∙ first_some (net_form n m) x (net_unbroken n m s)) ∙ ap (rows a b) (first_good n m s)

granted : (a b n m : ℕ) → m ≤ a → n ≤ b → rows a b (Ok (naturals (n, m))) ≡ Ok (n, m)
granted a b n m p q = cond-false (ltb a m || ltb b n) _ _ (or_from (ltb a m) (ltb b n) (le-ltb a m p) (le-ltb b n q))

-- a refusal is that of the opening, or of a later line
Placed : List ℕ → ℕ → ℕ → Refusal → Type 0
Placed text a b e = (opening text a b ≡ Err e) ⊎ ((n : ℕ) × (m : ℕ) × (opening text a b ≡ Ok (n, m)) × Stopped text n m e)

opened : (text : List ℕ) (a b n m : ℕ) (es : List (ℕ × ℤ)) (rs : List Road) (p : ℕ) → length text ≤ max_text → Begun text n m es rs p → m ≤ a → n ≤ b → opening text a b ≡ Ok (n, m)
opened text a b n m es rs p short begun l k = let h = begun_head text n m es rs p begun in headed text a b n m h.0 short begun.sized h.1 ∙ granted a b n m l k

short_row : (a b n m : ℕ) → (a < m) ⊎ (b < n) → rows a b (Ok (naturals (n, m))) ≡ Err TextRows
short_row a b n m (inl l) = cond-true (ltb a m || ltb b n) _ _ (or_left (ltb a m) (ltb b n) (lt-ltb a m l))
short_row a b n m (inr l) = cond-true (ltb a m || ltb b n) _ _ (or_right (ltb a m) (ltb b n) (lt-ltb b n l))

line_first : (text form : List ℕ) → LineAt text 0 form → first_line text ≡ Some form
line_first text form at = ap first_line (line_parts text 0 form at ∙ append_ended form _) ∙ first_some form _ (line_unbroken text 0 form at)

no_line_first : (text : List ℕ) → NoLine text 0 → first_line text ≡ None
no_line_first text h = first_none text (record { each = All-from_get_or (λ x. x ≡ 10 → ⊥) text 0 (λ i l e. h i (omega arith) l e) })

placed : (text : List ℕ) (a b : ℕ) (e : Refusal) → Refused text a b e → Placed text a b e
unfolding Placed
placed text a b e (too_long l says) = inl (cond-true (ltb max_text (length text)) _ _ (lt-ltb max_text (length text) l) ∙ ap Err (says_one _ e 9 (refl, refl) says))
placed text a b e (no_first short none says) = inl (opens text a b None short (no_line_first text none) ∙ ap Err (says_at_one _ e 10 (length text) (refl, refl) says))
placed text a b e (bad_first short form at fault) = inl (opens text a b (Some form) short (line_first text form at) ∙ ap (rows a b) (first_bad form e fault))
placed text a b e (short_rows short n m p begun less says) =
    let h = begun_head text n m [] [] p begun in
    inl (headed text a b n m h.0 short begun.sized h.1 ∙ short_row a b n m less ∙ ap Err (says_one _ e 14 (refl, refl) says))
placed text a b e (no_end short n m es rs p begun l k none left says) = inr (n, m, opened text a b n m es rs p short begun l k, drafts.no_end es rs p begun none left says)
placed text a b e (bad_line short n m es rs p begun l k form at fault) = inr (n, m, opened text a b n m es rs p short begun l k, drafts.bad_line es rs p begun form at fault)

-- a line that may be read has no fault
no_fault : (text : List ℕ) (n m : ℕ) (es : List (ℕ × ℤ)) (rs : List Road) (p : ℕ) (form : List ℕ) (e : Refusal) (k : Entry) (x : List ℕ) → Sized n m
    → Next n m es (length rs) k → drop p text ≡ ended (form_of k) ++ x → LineAt text p form → LineFault n m es rs form p e → ⊥
no_fault text n m es rs p form e k x s next is at fault =
    let j = next_judged n m es (length rs) k p s.nodes next in
    let f = line_is text p form (form_of k) x at (good_unbroken n k s.nodes (next_good n m es (length rs) k next)) is in
    ok_not_err j.0 e (sym j.1 ∙ ap (λ l. judge n m es (length rs) l p) (sym f) ∙ judge_bad n m es rs form p e s.nodes fault)

same_line : (text : List ℕ) (p : ℕ) (form other : List ℕ) → LineAt text p form → LineAt text p other → form ≡ other
same_line text p form other h k = line_is text p form other _ h (line_unbroken text p other k) (line_parts text p other k)

line_not_none : (text : List ℕ) (p : ℕ) (form : List ℕ) → LineAt text p form → NoLine text p → ⊥
line_not_none text p form at none = line_there text p form _ (line_parts text p form at) none

-- a text stops for one fault
end_line : (text : List ℕ) (n m : ℕ) (es fs : List (ℕ × ℤ)) (rs ss : List Road) (p q : ℕ) (form : List ℕ) (e : Refusal)
    → Begun text n m es rs p → NoLine text p → Begun text n m fs ss q → LineAt text q form → LineFault n m fs ss form q e → ⊥
end_line text n m es fs rs ss p q form e b none c at fault =
    elim (meeting text n m es fs rs ss p q b c) [
      | before k x next is ↦ line_there text p (form_of k) x is none
      | equal e1 e2 e3 ↦ line_not_none text q form at (subst (λ z. NoLine text z) e3 none)
      | after k x next is ↦ no_fault text n m fs ss q form e k x c.sized next is at fault
    ]

one_fault : (text : List ℕ) (n m : ℕ) (es fs : List (ℕ × ℤ)) (rs ss : List Road) (p q : ℕ) (form other : List ℕ) (e f : Refusal)
    → Begun text n m es rs p → LineAt text p form → LineFault n m es rs form p e → Begun text n m fs ss q → LineAt text q other → LineFault n m fs ss other q f → e ≡ f
one_fault text n m es fs rs ss p q form other e f b at fault c at' fault' =
    elim (meeting text n m es fs rs ss p q b c) [
      | before k x next is ↦ absurd (no_fault text n m es rs p form e k x b.sized next is at fault)
      | equal e1 e2 e3 ↦ err_one {X = List ℤ} e f (
          sym (judge_bad n m es rs form p e b.sized.nodes fault)
          ∙ ap (λ l. judge n m l (length rs) form p) e1 ∙ ap (λ l. judge n m fs (length l) form p) e2 ∙ ap (λ z. judge n m fs (length ss) form z) e3
          ∙ ap (λ l. judge n m fs (length ss) l q) (same_line text q form other (subst (λ z. LineAt text z form) e3 at) at')
          ∙ judge_bad n m fs ss other q f c.sized.nodes fault')
      | after k x next is ↦ absurd (no_fault text n m fs ss q other f k x c.sized next is at' fault')
    ]

stopped_one : (text : List ℕ) (n m : ℕ) (e f : Refusal) → Stopped text n m e → Stopped text n m f → e ≡ f
stopped_one text n m e f (drafts.no_end es rs p b none left says) (drafts.no_end fs ss q c none' left' says') = says_at_one e f 10 (length text) says says'
stopped_one text n m e f (drafts.no_end es rs p b none left says) (drafts.bad_line fs ss q c form at fault) = absurd (end_line text n m es fs rs ss p q form f b none c at fault)
stopped_one text n m e f (drafts.bad_line es rs p b form at fault) (drafts.no_end fs ss q c none left says) = absurd (end_line text n m fs es ss rs q p form e c none b at fault)
stopped_one text n m e f (drafts.bad_line es rs p b form at fault) (drafts.bad_line fs ss q c other at' fault') = one_fault text n m es fs rs ss p q form other e f b at fault c at' fault'

ok_sizes : (n m k l : ℕ) → ◌≡◌ {A = Result (ℕ × ℕ) Refusal} (Ok (n, m)) (Ok (k, l)) → (n ≡ k) × (m ≡ l)
ok_sizes n m k l h = let p : ◌≡◌ {A = ℕ × ℕ} (n, m) (k, l) = cc in (ap (λ v. v.0) p, ap (λ v. v.1) p)

pub refused_one : (text : List ℕ) (a b : ℕ) (e f : Refusal) → Refused text a b e → Refused text a b f → e ≡ f
unfolding Placed
refused_one text a b e f h k = both (placed text a b e h) (placed text a b f k)
  where
    both : Placed text a b e → Placed text a b f → e ≡ f
    both (inl p) (inl q) = err_one {X = ℕ × ℕ} e f (sym p ∙ q)
    both (inl p) (inr (n, m, q, s)) = absurd (ok_not_err (n, m) e (sym q ∙ p))
    both (inr (n, m, p, s)) (inl q) = absurd (ok_not_err (n, m) f (sym p ∙ q))
    both (inr (n, m, p, s)) (inr (k, l, q, t)) =
        let z = ok_sizes n m k l (sym p ∙ q) in
        stopped_one text k l e f (subst (λ x. Stopped text x l e) z.0 (subst (λ x. Stopped text n x e) z.1 s)) t

-- a consignment is read to its end
whole : (text : List ℕ) (n m : ℕ) (stocks : List ℤ) (roads : List Road) (c : IsConsignment text n m stocks roads) → Begun text n m c.entries roads (length text)
whole text n m stocks roads c =
    let arcs = c.arcs in
    record { sized = c.sized; inside = omega arith; front = take_all (length text) text (omega arith) ∙ c.is; fitting = c.fitting; few = omega arith }

nothing_left : (text form x : List ℕ) → drop (length text) text ≡ ended form ++ x → ⊥
nothing_left text form x e = line_there text (length text) form x e (λ k from to is. omega arith)

not_stopped : (text : List ℕ) (n m : ℕ) (stocks : List ℤ) (roads : List Road) (e : Refusal) → IsConsignment text n m stocks roads → Stopped text n m e → ⊥
not_stopped text n m stocks roads e c (drafts.no_end es rs p b none left says) =
    elim (meeting text n m es c.entries rs roads p (length text) b (whole text n m stocks roads c)) [
      | before k x next is ↦ line_there text p (form_of k) x is none
      | equal e1 e2 e3 ↦ ⊎_elim (λ l. omega arith) (λ l. omega (arith, ap length e2, c.arcs)) left
      | after k x next is ↦ nothing_left text (form_of k) x is
    ]
not_stopped text n m stocks roads e c (drafts.bad_line es rs p b form at fault) =
    elim (meeting text n m es c.entries rs roads p (length text) b (whole text n m stocks roads c)) [
      | before k x next is ↦ no_fault text n m es rs p form e k x b.sized next is at fault
      | equal e1 e2 e3 ↦ (let l = at.inside in omega arith)
      | after k x next is ↦ nothing_left text (form_of k) x is
    ]

pub not_refused : (text : List ℕ) (a b n m : ℕ) (stocks : List ℤ) (roads : List Road) (e : Refusal) → length text ≤ max_text → m ≤ a → n ≤ b
    → IsConsignment text n m stocks roads → Refused text a b e → ⊥
unfolding Placed
not_refused text a b n m stocks roads e short p q c h = late (placed text a b e h)
  where
    late : Placed text a b e → ⊥
    late (inl r) = ok_not_err (n, m) e (sym (opened text a b n m c.entries roads (length text) short (whole text n m stocks roads c) p q) ∙ r)
    late (inr (k, l, r, s)) =
        let z = ok_sizes k l n m (sym r ∙ opened text a b n m c.entries roads (length text) short (whole text n m stocks roads c) p q) in
        not_stopped text n m stocks roads e c (subst (λ x. Stopped text x m e) z.0 (subst (λ x. Stopped text k x e) z.1 s))

-- two consignments of one text are one
pub consigned_one : (text : List ℕ) (n m k l : ℕ) (stocks stocks' : List ℤ) (roads roads' : List Road) → length text ≤ max_text
    → IsConsignment text n m stocks roads → IsConsignment text k l stocks' roads' → (n ≡ k) × (m ≡ l) × (stocks ≡ stocks') × (roads ≡ roads')
consigned_one text n m k l stocks stocks' roads roads' short c d =
    let z = ok_sizes n m k l (sym (opened text (m + l) (n + k) n m _ roads (length text) short (whole text n m stocks roads c) (omega arith) (omega arith))
    ∙ opened text (m + l) (n + k) k l _ roads' (length text) short (whole text k l stocks' roads' d) (omega arith) (omega arith)) in
    let w = whole text k l stocks' roads' d in
    same z (subst (λ x. Begun text x m d.entries roads' (length text)) (sym z.0) (subst (λ x. Begun text k x d.entries roads' (length text)) (sym z.1) w))
  where
    same : (n ≡ k) × (m ≡ l) → Begun text n m d.entries roads' (length text) → (n ≡ k) × (m ≡ l) × (stocks ≡ stocks') × (roads ≡ roads')
    same z w = elim (meeting text n m c.entries d.entries roads roads' (length text) (length text) (whole text n m stocks roads c) w) [
      | before j x next is ↦ absurd (nothing_left text (form_of j) x is)
      | equal e1 e2 e3 ↦ (z.0, z.1, ext_get_or (pos 0) stocks stocks' (c.nodes ∙ z.0 ∙ sym d.nodes) (λ i h. c.stock i (omega (arith, c.nodes)) ∙ ap (λ es. stock_of es i) e1 ∙ sym (d.stock i (omega (arith, c.nodes, z.0)))), e2)
      | after j x next is ↦ absurd (nothing_left text (form_of j) x is)
    ]

-- so an outcome is the whole promise
refilled : (n m k l : ℕ) (stocks stocks' : List ℤ) (roads roads' road_row road_row' : List Road) (stock_row stock_row' : List ℤ) → (n ≡ k) × (m ≡ l) × (stocks ≡ stocks') × (roads ≡ roads')
    → Filled n m stocks roads road_row road_row' stock_row stock_row' → Filled k l stocks' roads' road_row road_row' stock_row stock_row'
refilled n m k l stocks stocks' roads roads' road_row road_row' stock_row stock_row' z f = record {
  roads_is = f.roads_is ∙ ap (λ x. roads ++ drop x road_row) z.1 ∙ ap (λ x. x ++ drop l road_row) z.3;
  stocks_is = f.stocks_is ∙ ap (λ x. stocks ++ drop x stock_row) z.0 ∙ ap (λ x. x ++ drop k stock_row) z.2;
}

sizes_one : (s : Sizes) (k l : ℕ) → s.nodes ≡ k → s.arcs ≡ l → ◌≡◌ {A = Result Sizes Refusal} (Ok s) (Ok (record { nodes = k; arcs = l }))
sizes_one s k l p q = ap (λ x. Ok (record { nodes = x; arcs = s.arcs })) p ∙ ap (λ x. Ok (record { nodes = k; arcs = x })) q

pub settled : (text : List ℕ) (road_row : List Road) (stock_row : List ℤ) (r : Result Sizes Refusal) (road_row' : List Road) (stock_row' : List ℤ)
    → Outcome text road_row stock_row r road_row' stock_row' → Answered text road_row stock_row r road_row' stock_row'
settled text road_row stock_row (Ok s) road_row' stock_row' h = record {
  outcome = h;
  accepts = λ n m stocks roads short p q c.
      let z = consigned_one text s.nodes s.arcs n m h.stocks stocks h.roads roads short h.consignment c in
      (sizes_one s n m z.0 z.1, refilled s.nodes s.arcs n m h.stocks stocks h.roads roads road_row road_row' stock_row stock_row' z h.filled);
  refuses = λ e f. absurd (not_refused text (length road_row) (length stock_row) s.nodes s.arcs h.stocks h.roads e h.short h.road_room h.stock_room h.consignment f);
}
settled text road_row stock_row (Err x) road_row' stock_row' h = record {
  outcome = h;
  accepts = λ n m stocks roads short p q c. absurd (not_refused text (length road_row) (length stock_row) n m stocks roads x short p q c h.0);
  refuses = λ e f. ap Err (refused_one text (length road_row) (length stock_row) x e h.0 f);
}
