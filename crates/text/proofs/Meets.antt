-- Two readings of one text agree as far as both go.
use Rattle.std.proofs.Common.{◌≡◌, ℕ, suc, ◌+◌, ◌<◌, ◌≤◌, false, eqb, List, [], ◌∷◌, ◌++◌, length, get_or, drop, ℤ, pos, nat_abs, Ok, Result, sym, refl, ap, ◌∙◌, subst, append_assoc, append-nil, add-zero, zero-add, arith}
use Rattle.std.specs.List.{flat_map, AllByRecursion}
use Rattle.std.proofs.lemmas.List.{append_cancel_left, take-append-drop, length-take-le}
use Rattle.std.proofs.lemmas.Bool.{or_parts, or_from}
use Rattle.network.specs.Limits.{max_nodes}
use Rattle.network.specs.Roads.{Ranged, Passable}
use Rattle.network.specs.declared.refusal.Refusal.{Refusal}
use Rattle.network.specs.declared.road.Road.{Road}
use Rattle.forms.specs.Form.{stock_items, arc_items, stock_numbers, road_numbers}
use Rattle.forms.specs.Scan.{scan}
use Rattle.lines.specs.Word.{spelt}
use Rattle.lines.specs.declared.word.Word.TheVariants.{Stock, Arc}
use Rattle.text.specs.Consignment.{net_form, stock_form, arc_form, ended, text_of, Stocked, named, Once}
use Rattle.text.specs.Refused.{Begun}
use Rattle.text.proofs.Entries.{apart}
use Rattle.text.proofs.Lines.{other_word}
use Rattle.text.proofs.Judge.{judge, judge_stock_good, judge_arc_good, stock_read, arc_read}
use Rattle.text.proofs.Cuts.{Unbroken, stock_unbroken, arc_unbroken, cut_line}

-- what a later line names
pub data Entry : Type 0 where
  stock : (ℕ × ℤ) → Entry
  arc : Road → Entry

abbrev pub form_of : Entry → List ℕ
form_of (stock s) = stock_form s
form_of (arc r) = arc_form r

abbrev pub body : List Entry → List ℕ
body ks = flat_map (λ k. ended (form_of k)) ks

abbrev arcs_listed : List Road → List Entry
arcs_listed [] = []
arcs_listed (r ∷ rs) = arc r ∷ arcs_listed rs

abbrev listed : List (ℕ × ℤ) → List Road → List Entry
listed [] rs = arcs_listed rs
listed (s ∷ es) rs = stock s ∷ listed es rs

body_arcs : (rs : List Road) → flat_map (λ r. ended (arc_form r)) rs ≡ body (arcs_listed rs)
body_arcs [] = refl
body_arcs (r ∷ rs) = ap (λ l. ended (arc_form r) ++ l) (body_arcs rs)

body_listed : (es : List (ℕ × ℤ)) (rs : List Road) → flat_map (λ e. ended (stock_form e)) es ++ flat_map (λ r. ended (arc_form r)) rs ≡ body (listed es rs)
body_listed [] rs = body_arcs rs
body_listed (s ∷ es) rs = append_assoc (ended (stock_form s)) _ _ ∙ ap (λ l. ended (stock_form s) ++ l) (body_listed es rs)

stocks_of : List Entry → List (ℕ × ℤ)
stocks_of [] = []
stocks_of (stock s ∷ ks) = s ∷ stocks_of ks
stocks_of (arc r ∷ ks) = stocks_of ks

roads_of : List Entry → List Road
roads_of [] = []
roads_of (stock s ∷ ks) = roads_of ks
roads_of (arc r ∷ ks) = r ∷ roads_of ks

stocks_none : (rs : List Road) → stocks_of (arcs_listed rs) ≡ []
unfolding stocks_of
stocks_none [] = refl
stocks_none (r ∷ rs) = stocks_none rs

stocks_listed : (es : List (ℕ × ℤ)) (rs : List Road) → stocks_of (listed es rs) ≡ es
unfolding stocks_of
stocks_listed [] rs = stocks_none rs
stocks_listed (s ∷ es) rs = ap (λ l. s ∷ l) (stocks_listed es rs)

roads_arcs : (rs : List Road) → roads_of (arcs_listed rs) ≡ rs
unfolding roads_of
roads_arcs [] = refl
roads_arcs (r ∷ rs) = ap (λ l. r ∷ l) (roads_arcs rs)

roads_listed : (es : List (ℕ × ℤ)) (rs : List Road) → roads_of (listed es rs) ≡ rs
unfolding roads_of
roads_listed [] rs = roads_arcs rs
roads_listed (s ∷ es) rs = roads_listed es rs

-- a line tells what it names
abbrev Good : ℕ → Entry → Type 0
Good n (stock s) = Stocked n s
Good n (arc r) = Ranged n r

pub good_unbroken : (n : ℕ) (k : Entry) → n ≤ max_nodes → Good n k → Unbroken (form_of k)
good_unbroken n (stock s) few h = stock_unbroken n s few h
good_unbroken n (arc r) few h = arc_unbroken n r few h

ok_same : (vs ws : List ℤ) → ◌≡◌ {A = Result (List ℤ) Refusal} (Ok vs) (Ok ws) → vs ≡ ws
ok_same vs ws h = cc

abbrev stock_from : List ℤ → ℕ × ℤ
stock_from vs = (nat_abs (get_or vs 0 (pos 0)), get_or vs 1 (pos 0))

abbrev nat_at : List ℤ → ℕ → ℕ
nat_at vs i = nat_abs (get_or vs i (pos 0))

abbrev road_from : List ℤ → Road
road_from vs = record { tail = nat_at vs 0; head = nat_at vs 1; least = nat_at vs 2; most = nat_at vs 3; first = get_or vs 4 (pos 0); second = get_or vs 5 (pos 0) }

same_stock : (n : ℕ) (s t : ℕ × ℤ) → n ≤ max_nodes → Stocked n s → Stocked n t → stock_form s ≡ stock_form t → s ≡ t
same_stock n s t few h k e =
    let q : stock_numbers s ≡ stock_numbers t = ok_same _ _ (sym (stock_read n s 0 few h) ∙ ap (λ l. scan (stock_items n) (drop (length (spelt Stock)) l) 0) e ∙ stock_read n t 0 few k) in
    ap stock_from q

same_road : (n : ℕ) (r t : Road) → n ≤ max_nodes → Ranged n r → Ranged n t → arc_form r ≡ arc_form t → r ≡ t
same_road n r t few h k e =
    let q : road_numbers r ≡ road_numbers t = ok_same _ _ (sym (arc_read n r 0 few h) ∙ ap (λ l. scan (arc_items n) (drop (length (spelt Arc)) l) 0) e ∙ arc_read n t 0 few k) in
    ap road_from q

same_entry : (n : ℕ) (k l : Entry) → n ≤ max_nodes → Good n k → Good n l → form_of k ≡ form_of l → k ≡ l
same_entry n (stock s) (stock t) few h k e = ap stock (same_stock n s t few h k e)
same_entry n (stock s) (arc t) few h k e = absurd (omega (arith, other_word Stock Arc (stock_form s) (drop (length (spelt Stock)) (stock_form s)) (drop (length (spelt Arc)) (arc_form t)) refl e))
same_entry n (arc s) (stock t) few h k e = absurd (omega (arith, other_word Arc Stock (arc_form s) (drop (length (spelt Arc)) (arc_form s)) (drop (length (spelt Stock)) (stock_form t)) refl e))
same_entry n (arc s) (arc t) few h k e = ap arc (same_road n s t few h k e)

-- entries and what follows them
data Meet (ks ls : List Entry) (x y : List ℕ) : Type 0 where
  before : (k : Entry) (more : List Entry) → ls ≡ ks ++ (k ∷ more) → x ≡ ended (form_of k) ++ (body more ++ y) → Meet ks ls x y
  equal : ks ≡ ls → x ≡ y → Meet ks ls x y
  after : (k : Entry) (more : List Entry) → ks ≡ ls ++ (k ∷ more) → y ≡ ended (form_of k) ++ (body more ++ x) → Meet ks ls x y

one_more : (k l : Entry) (ks ls : List Entry) (x y : List ℕ) → k ≡ l → Meet ks ls x y → Meet (k ∷ ks) (l ∷ ls) x y
one_more k l ks ls x y e (before j more p q) = before j more (ap (λ z. z ∷ ls) (sym e) ∙ ap (λ z. k ∷ z) p) q
one_more k l ks ls x y e (equal p q) = equal (ap (λ z. z ∷ ks) e ∙ ap (λ z. l ∷ z) p) q
one_more k l ks ls x y e (after j more p q) = after j more (ap (λ z. z ∷ ks) e ∙ ap (λ z. l ∷ z) p) q

meet : (n : ℕ) (ks ls : List Entry) (x y : List ℕ) → n ≤ max_nodes → AllByRecursion (Good n) ks → AllByRecursion (Good n) ls → body ks ++ x ≡ body ls ++ y → Meet ks ls x y
meet n [] [] x y few h g e = equal refl e
meet n [] (l ∷ ls) x y few h g e = before l ls refl (e ∙ append_assoc (ended (form_of l)) (body ls) y)
meet n (k ∷ ks) [] x y few h g e = after k ks refl (sym e ∙ append_assoc (ended (form_of k)) (body ks) x)
meet n (k ∷ ks) (l ∷ ls) x y few h g e =
    let c = cut_line (form_of k) (form_of l) (body ks ++ x) (body ls ++ y) (good_unbroken n k few h.0) (good_unbroken n l few g.0)
    (sym (append_assoc (ended (form_of k)) (body ks) x) ∙ e ∙ append_assoc (ended (form_of l)) (body ls) y) in
    one_more k l ks ls x y (same_entry n k l few h.0 g.0 c.0) (meet n ks ls x y few h.1 g.1 c.1)

-- what may come next, after the entries and so many arcs
abbrev pub Next : ℕ → ℕ → List (ℕ × ℤ) → ℕ → Entry → Type 0
Next n m es a (stock s) = (a ≡ 0) × Stocked n s × (named es s.0 ≡ false)
Next n m es a (arc r) = (a < m) × Ranged n r × Passable r

pub next_good : (n m : ℕ) (es : List (ℕ × ℤ)) (a : ℕ) (k : Entry) → Next n m es a k → Good n k
next_good n m es a (stock s) h = h.1
next_good n m es a (arc r) h = h.1

pub next_judged : (n m : ℕ) (es : List (ℕ × ℤ)) (a : ℕ) (k : Entry) (place : ℕ) → n ≤ max_nodes → Next n m es a k → (vs : List ℤ) × (judge n m es a (form_of k) place ≡ Ok vs)
next_judged n m es a (stock s) place few h = (stock_numbers s, judge_stock_good n m es a s place few h.0 h.1 h.2)
next_judged n m es a (arc r) place few h = (road_numbers r, judge_arc_good n m es a r place few h.0 h.1 h.2)

-- each entry may come where it comes
abbrev Runs : ℕ → ℕ → List (ℕ × ℤ) → ℕ → List Entry → Type 0
Runs n m es a [] = Unit {0}
Runs n m es a (stock s ∷ ks) = Next n m es a (stock s) × Runs n m (es ++ (s ∷ [])) a ks
Runs n m es a (arc r ∷ ks) = Next n m es a (arc r) × Runs n m es (a + 1) ks

runs_next : (n m : ℕ) (es : List (ℕ × ℤ)) (a : ℕ) (k : Entry) (ks : List Entry) → Runs n m es a (k ∷ ks) → Next n m es a k
runs_next n m es a (stock s) ks h = h.0
runs_next n m es a (arc r) ks h = h.0

runs_arcs : (n m : ℕ) (es : List (ℕ × ℤ)) (a : ℕ) (rs : List Road) → AllByRecursion (Ranged n) rs → AllByRecursion Passable rs → a + length rs ≤ m → Runs n m es a (arcs_listed rs)
runs_arcs n m es a [] h k l = tt
runs_arcs n m es a (r ∷ rs) h k l = ((omega arith, h.0, k.0), runs_arcs n m es (a + 1) rs h.1 k.1 (omega arith))

once_front : (es : List (ℕ × ℤ)) (s : ℕ × ℤ) (ts : List (ℕ × ℤ)) → Once (es ++ (s ∷ ts)) → named es s.0 ≡ false
once_front [] s ts h = refl
once_front (e ∷ es) s ts h = or_from (eqb e.0 s.0) (named es s.0) (apart s.0 e.0 (named_not es s ts e.0 h.0)) (once_front es s ts h.1)
  where
    named_not : (es : List (ℕ × ℤ)) (s : ℕ × ℤ) (ts : List (ℕ × ℤ)) (i : ℕ) → named (es ++ (s ∷ ts)) i ≡ false → eqb s.0 i ≡ false
    named_not [] s ts i h = (or_parts (eqb s.0 i) (named ts i) h).0
    named_not (e ∷ es) s ts i h = named_not es s ts i (or_parts (eqb e.0 i) (named (es ++ (s ∷ ts)) i) h).1

runs_listed : (n m : ℕ) (es ts : List (ℕ × ℤ)) (rs : List Road) → AllByRecursion (Stocked n) ts → Once (es ++ ts) → AllByRecursion (Ranged n) rs → AllByRecursion Passable rs → length rs ≤ m → Runs n m es 0 (listed ts rs)
runs_listed n m es [] rs st on h k l = runs_arcs n m es 0 rs h k (omega arith)
runs_listed n m es (s ∷ ts) rs st on h k l =
    ((refl, st.0, once_front es s ts on), runs_listed n m (es ++ (s ∷ [])) ts rs st.1 (subst Once (sym (append_assoc es (s ∷ []) ts)) on) h k l)

skip_arcs : (n m : ℕ) (es : List (ℕ × ℤ)) (a : ℕ) (rs : List Road) (more : List Entry) → Runs n m es a (arcs_listed rs ++ more) → Runs n m es (a + length rs) more
skip_arcs n m es a [] more h = subst (λ k. Runs n m es k more) (sym (add-zero a)) h
skip_arcs n m es a (r ∷ rs) more h = subst (λ k. Runs n m es k more) (shift a (length rs)) (skip_arcs n m es (a + 1) rs more h.1)
  where
    shift : (a b : ℕ) → (a + 1) + b ≡ a + suc b
    shift a b = omega arith

skip_listed : (n m : ℕ) (es ts : List (ℕ × ℤ)) (rs : List Road) (more : List Entry) → Runs n m es 0 (listed ts rs ++ more) → Runs n m (es ++ ts) (length rs) more
skip_listed n m es [] rs more h = subst (λ l. Runs n m l (length rs) more) (sym (append-nil es)) (subst (λ k. Runs n m es k more) (zero-add (length rs)) (skip_arcs n m es 0 rs more h))
skip_listed n m es (s ∷ ts) rs more h = subst (λ l. Runs n m l (length rs) more) (append_assoc es (s ∷ []) ts) (skip_listed n m (es ++ (s ∷ [])) ts rs more h.1)

-- two beginnings of one text
pub data Meeting (text : List ℕ) (n m : ℕ) (es : List (ℕ × ℤ)) (rs : List Road) (p : ℕ) (fs : List (ℕ × ℤ)) (ss : List Road) (q : ℕ) : Type 0 where
  before : (k : Entry) (x : List ℕ) → Next n m es (length rs) k → drop p text ≡ ended (form_of k) ++ x → Meeting text n m es rs p fs ss q
  equal : es ≡ fs → rs ≡ ss → p ≡ q → Meeting text n m es rs p fs ss q
  after : (k : Entry) (x : List ℕ) → Next n m fs (length ss) k → drop q text ≡ ended (form_of k) ++ x → Meeting text n m es rs p fs ss q

all_arcs : (n : ℕ) (rs : List Road) → AllByRecursion (Ranged n) rs → AllByRecursion (Good n) (arcs_listed rs)
all_arcs n [] h = tt
all_arcs n (r ∷ rs) h = (h.0, all_arcs n rs h.1)

all_good : (n : ℕ) (es : List (ℕ × ℤ)) (rs : List Road) → AllByRecursion (Stocked n) es → AllByRecursion (Ranged n) rs → AllByRecursion (Good n) (listed es rs)
all_good n [] rs h k = all_arcs n rs k
all_good n (s ∷ es) rs h k = (h.0, all_good n es rs h.1 k)

begun_parts : (text : List ℕ) (n m : ℕ) (es : List (ℕ × ℤ)) (rs : List Road) (p : ℕ) → Begun text n m es rs p → text ≡ ended (net_form n m) ++ (body (listed es rs) ++ drop p text)
begun_parts text n m es rs p b =
    sym (take-append-drop p text) ∙ ap (λ l. l ++ drop p text) (b.front ∙ ap (λ l. ended (net_form n m) ++ l) (body_listed es rs)) ∙ append_assoc (ended (net_form n m)) (body (listed es rs)) (drop p text)

begun_next : (text : List ℕ) (n m : ℕ) (es fs : List (ℕ × ℤ)) (rs ss : List Road) (q : ℕ) (k : Entry) (more : List Entry) → Begun text n m fs ss q → listed fs ss ≡ listed es rs ++ (k ∷ more)
    → Next n m es (length rs) k
begun_next text n m es fs rs ss q k more b e =
    runs_next n m es (length rs) k more (skip_listed n m [] es rs (k ∷ more) (subst (λ l. Runs n m [] 0 l) e (runs_listed n m [] fs ss b.fitting.stocked b.fitting.once b.fitting.ranged b.fitting.passable b.few)))

begun_place : (text : List ℕ) (n m : ℕ) (es : List (ℕ × ℤ)) (rs : List Road) (p : ℕ) → Begun text n m es rs p → p ≡ length (text_of n m es rs)
begun_place text n m es rs p b = sym (length-take-le p text b.inside) ∙ ap length b.front

pub meeting : (text : List ℕ) (n m : ℕ) (es fs : List (ℕ × ℤ)) (rs ss : List Road) (p q : ℕ) → Begun text n m es rs p → Begun text n m fs ss q → Meeting text n m es rs p fs ss q
meeting text n m es fs rs ss p q b c =
    elim (meet n (listed es rs) (listed fs ss) (drop p text) (drop q text) b.sized.nodes
    (all_good n es rs b.fitting.stocked b.fitting.ranged) (all_good n fs ss c.fitting.stocked c.fitting.ranged)
    (append_cancel_left (ended (net_form n m)) _ _ (sym (begun_parts text n m es rs p b) ∙ begun_parts text n m fs ss q c))) [
      | before k more e x ↦ before k _ (begun_next text n m es fs rs ss q k more c e) x
      | equal e x ↦ together (sym (stocks_listed es rs) ∙ ap stocks_of e ∙ stocks_listed fs ss) (sym (roads_listed es rs) ∙ ap roads_of e ∙ roads_listed fs ss)
      | after k more e x ↦ after k _ (begun_next text n m fs es ss rs p k more b e) x
    ]
  where
    together : es ≡ fs → rs ≡ ss → Meeting text n m es rs p fs ss q
    together e f = equal e f (begun_place text n m es rs p b ∙ ap (λ l. length (text_of n m l rs)) e ∙ ap (λ l. length (text_of n m fs l)) f ∙ sym (begun_place text n m fs ss q c))

-- the first line
pub begun_head : (text : List ℕ) (n m : ℕ) (es : List (ℕ × ℤ)) (rs : List Road) (p : ℕ) → Begun text n m es rs p → (x : List ℕ) × (text ≡ ended (net_form n m) ++ x)
begun_head text n m es rs p b = (_, begun_parts text n m es rs p b)
