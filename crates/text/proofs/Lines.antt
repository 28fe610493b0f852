-- One line more.
use Rattle.std.proofs.Common.{◌≡◌, ℕ, ◌+◌, ◌<◌, Bool, true, false, cond, eqb, ltb, List, [], ◌∷◌, ◌++◌, length, get_or, ℤ, None, is_some, Ok, Err, Result, sym, refl, ap, ◌∙◌, subst, inl, inr, arith}
use Rattle.std.specs.List.{AllByRecursion}
use Rattle.std.proofs.lemmas.Bool.{eqb-true, ltb-true}
use Rattle.network.specs.Limits.{max_nodes}
use Rattle.network.specs.Refusals.{SaysAt}
use Rattle.network.specs.declared.refusal.Refusal.{Refusal}
use Rattle.network.specs.declared.road.Road.{Road}
use Rattle.forms.specs.Form.{stock_items, arc_items}
use Rattle.lines.specs.Word.{spelt, furthest}
use Rattle.lines.specs.declared.word.Word.{Word}
use Rattle.lines.specs.declared.word.Word.TheVariants.{Net, Stock, Arc}
use Rattle.text.specs.declared.draft.Draft.{Draft}
use Rattle.text.specs.Consignment.{named}
use Rattle.text.specs.Refused.{open_words, NoWord, Faulty, LineFault, no_word, bad_stock, named_twice, bad_arc, impassable}
use Rattle.text.specs.Drafts.{stock_said, Holds, StockPut, RoadPut, StockTook, RoadTook, a_stock, an_arc, LineTook}
use Rattle.text.proofs.Values.{stock_values, arc_values, faulty}
use Rattle.text.proofs.Entries.{stocks_more, marks_more}

-- a stock
pub stock_held : (d d' : Draft) (s : ℕ × ℤ) (es : List (ℕ × ℤ)) (rs : List Road) → s.0 < max_nodes → named es s.0 ≡ false → StockPut d s d' → Holds d es rs → Holds d' (es ++ (s ∷ [])) rs
stock_held d d' s es rs inside free p h = record {
  stock = λ i l. ap (λ row. stock_said (get_or row i None)) p.stocks ∙ stocks_more d.stocks es s max_nodes d.stocks_len free inside h.stock i l;
  marks = λ i l. ap (λ row. is_some (get_or row i None)) p.stocks ∙ marks_more d.stocks es s max_nodes d.stocks_len inside h.marks i l;
  roads_are = p.roads ∙ h.roads_are;
}

pub stock_line : (d d' : Draft) (form rest : List ℕ) (place start : ℕ) (r : Result (Unit {0}) Refusal) → start ≡ place + length (spelt Stock) → form ≡ spelt Stock ++ rest → length d.roads.items ≡ 0
    → StockTook d rest start place d' r → LineTook d form place d' r
stock_line d d' form rest place start (Ok u) b e z (s, read, inside, free, p) =
    let v = stock_values d.sizes.nodes rest start s d.some read in (
      p.sizes,
      λ es rs h.
          let few = d.nodes_few in
          let within : s.0 < max_nodes = omega arith in
          let fresh : named es s.0 ≡ false = sym (h.marks s.0 within) ∙ free in
          (es ++ (s ∷ []), rs, a_stock (sym (ap length h.roads_are) ∙ z) s (e ∙ v.0) v.1 fresh refl refl, stock_held d d' s es rs within fresh p h),
    )
stock_line d d' form rest place start (Err x) b e z (inl read) = λ es rs h. bad_stock (sym (ap length h.roads_are) ∙ z) rest e (subst (λ k. Faulty (stock_items d.sizes.nodes) rest k x) b (faulty _ rest start x read))
stock_line d d' form rest place start (Err x) b e z (inr (s, read, inside, taken, says)) =
    let v = stock_values d.sizes.nodes rest start s d.some read in
    λ es rs h.
    let few = d.nodes_few in
    let within : s.0 < max_nodes = omega arith in
    named_twice (sym (ap length h.roads_are) ∙ z) s (e ∙ v.0) v.1 (sym (h.marks s.0 within) ∙ taken) says

-- an arc
pub road_held : (d d' : Draft) (r : Road) (es : List (ℕ × ℤ)) (rs : List Road) → RoadPut d r d' → Holds d es rs → Holds d' es (rs ++ (r ∷ []))
road_held d d' r es rs p h = record {
  stock = λ i l. ap (λ row. stock_said (get_or row i None)) p.stocks ∙ h.stock i l;
  marks = λ i l. ap (λ row. is_some (get_or row i None)) p.stocks ∙ h.marks i l;
  roads_are = p.roads ∙ ap (λ l. l ++ (r ∷ [])) h.roads_are;
}

pub arc_line : (d d' : Draft) (form rest : List ℕ) (place start : ℕ) (r : Result (Unit {0}) Refusal) → start ≡ place + length (spelt Arc) → form ≡ spelt Arc ++ rest → length d.roads.items < d.sizes.arcs
    → RoadTook d rest start place d' r → LineTook d form place d' r
arc_line d d' form rest place start (Ok u) b e room (r, read, fit, p) =
    let v = arc_values d.sizes.nodes rest start r d.some read in
    (p.sizes, λ es rs h. (es, rs ++ (r ∷ []), an_arc (subst (λ k. k < d.sizes.arcs) (ap length h.roads_are) room) r (e ∙ v.0) v.1 fit refl refl, road_held d d' r es rs p h))
arc_line d d' form rest place start (Err x) b e room (inl read) = λ es rs h. bad_arc (subst (λ k. k < d.sizes.arcs) (ap length h.roads_are) room) rest e (subst (λ k. Faulty (arc_items d.sizes.nodes) rest k x) b (faulty _ rest start x read))
arc_line d d' form rest place start (Err x) b e room (inr (r, read, unfit, says)) =
    let v = arc_values d.sizes.nodes rest start r d.some read in
    λ es rs h. impassable (subst (λ k. k < d.sizes.arcs) (ap length h.roads_are) room) r (e ∙ v.0) v.1 unfit says

-- a form begins with one word at most
abbrev pub mark : Word → ℕ
mark Net = 110
mark Stock = 115
mark Arc = 97

second : (w : Word) (rest : List ℕ) → get_or (spelt w ++ rest) 1 0 ≡ mark w
second Net rest = refl
second Stock rest = refl
second Arc rest = refl

pub other_word : (v w : Word) (form rest more : List ℕ) → form ≡ spelt v ++ rest → form ≡ spelt w ++ more → mark v ≡ mark w
other_word v w form rest more e f = sym (second v rest) ∙ ap (λ l. get_or l 1 0) (sym e ∙ f) ∙ second w more

-- no open word
abbrev pub BeginsNot : Word → List ℕ → Type 0
BeginsNot w form = (rest : List ℕ) → form ≡ spelt w ++ rest → ⊥

all_open : (P : Word → Type 0) (s a : Bool) → (s ≡ true → P Stock) → (a ≡ true → P Arc) → AllByRecursion P (cond s (Stock ∷ []) [] ++ cond a (Arc ∷ []) [])
all_open P true true p q = (p refl, (q refl, tt))
all_open P true false p q = (p refl, tt)
all_open P false true p q = (q refl, tt)
all_open P false false p q = tt

pub closed_line : (d : Draft) (form : List ℕ) (place : ℕ) (e : Refusal) → (length d.roads.items ≡ 0 → BeginsNot Stock form) → (length d.roads.items < d.sizes.arcs → BeginsNot Arc form)
    → SaysAt e 10 (place + furthest (open_words d.sizes.arcs (length d.roads.items)) form) → (es : List (ℕ × ℤ)) (rs : List Road) → Holds d es rs → LineFault d.sizes.nodes d.sizes.arcs es rs form place e
closed_line d form place e p q says es rs h =
    subst (λ k. NoWord (open_words d.sizes.arcs k) form place e → LineFault d.sizes.nodes d.sizes.arcs es rs form place e) (sym (ap length h.roads_are)) no_word
    (record { none = all_open (λ w. BeginsNot w form) (eqb (length d.roads.items) 0) (ltb (length d.roads.items) d.sizes.arcs) (λ t. p (eqb-true (length d.roads.items) 0 t)) (λ t. q (ltb-true (length d.roads.items) d.sizes.arcs t)); says = says })

-- the line begins with a word that is not open
pub closed_known : (d : Draft) (form : List ℕ) (w : Word) (rest : List ℕ) (place : ℕ) (e : Refusal) → form ≡ spelt w ++ rest
    → (length d.roads.items ≡ 0 → mark w ≡ mark Stock → ⊥) → (length d.roads.items < d.sizes.arcs → mark w ≡ mark Arc → ⊥)
    → SaysAt e 10 (place + furthest (open_words d.sizes.arcs (length d.roads.items)) form) → (es : List (ℕ × ℤ)) (rs : List Road) → Holds d es rs → LineFault d.sizes.nodes d.sizes.arcs es rs form place e
closed_known d form w rest place e f p q says =
    closed_line d form place e (λ z more g. p z (other_word w Stock form rest more f g)) (λ l more g. q l (other_word w Arc form rest more f g)) says
