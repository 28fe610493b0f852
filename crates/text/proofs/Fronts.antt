-- How the front of a text grows by a line.
use Rattle.std.proofs.Common.{◌≡◌, ℕ, ◌+◌, ◌<◌, ◌≤◌, ◌⊎◌, List, [], ◌∷◌, ◌++◌, length, take, drop, ℤ, IsErrAnd, Ok, Err, Result, sym, ap, ◌∙◌, subst, inl, inr, append_assoc, append-nil, add_assoc, arith}
use Rattle.std.specs.List.{flat_map}
use Rattle.std.proofs.ByRecursion.{All-push}
use Rattle.std.proofs.lemmas.List.{take_more, take-append-drop, take-take, drop-take, flat_map_more, nil_from_length, length_push}
use Rattle.network.specs.Refusals.{SaysAt}
use Rattle.network.specs.declared.refusal.Refusal.{Refusal}
use Rattle.network.specs.declared.road.Road.{Road}
use Rattle.lines.specs.Line.{LineAt, NoLine}
use Rattle.text.specs.declared.draft.Draft.{Draft}
use Rattle.text.specs.Consignment.{net_form, stock_form, arc_form, ended, text_of}
use Rattle.text.specs.Refused.{Begun, LineFault}
use Rattle.text.specs.Drafts.{Holds, LineRead, a_stock, an_arc, LineTook, LinesTook, Stopped, no_end, bad_line}
use Rattle.text.proofs.Entries.{once_more}

-- the text up to the end of a line
take_add : (p n : ℕ) (xs : List ℕ) → take (p + n) xs ≡ take p xs ++ take n (drop p xs)
take_add p n xs =
    sym (take-append-drop p (take (p + n) xs)) ∙ ap (λ l. l ++ drop p (take (p + n) xs)) (take-take p (p + n) xs (omega arith)) ∙ ap (λ l. take p xs ++ l) (drop-take p n xs)

pub line_front : (text : List ℕ) (place : ℕ) (form : List ℕ) → LineAt text place form → take (place + (length form + 1)) text ≡ take place text ++ ended form
line_front text place form h =
    let n = length form in
    ap (λ k. take k text) (sym (add_assoc place n 1))
    ∙ take_more text (place + n) 0 h.inside
    ∙ ap (λ b. take (place + n) text ++ (b ∷ [])) h.ends
    ∙ ap (λ l. l ++ (10 ∷ [])) (take_add place n text)
    ∙ ap (λ l. (take place text ++ l) ++ (10 ∷ [])) (sym h.part)
    ∙ append_assoc (take place text) form (10 ∷ [])

-- one stock more, one arc more
text_stock : (n m : ℕ) (es : List (ℕ × ℤ)) (rs : List Road) (s : ℕ × ℤ) → length rs ≡ 0 → text_of n m es rs ++ ended (stock_form s) ≡ text_of n m (es ++ (s ∷ [])) rs
text_stock n m es rs s z =
    subst (λ l. text_of n m es l ++ ended (stock_form s) ≡ text_of n m (es ++ (s ∷ [])) l) (sym (nil_from_length rs z))
    (ap (λ l. (ended (net_form n m) ++ l) ++ ended (stock_form s)) (append-nil (flat_map (λ e. ended (stock_form e)) es))
    ∙ flat_map_more (λ e. ended (stock_form e)) (ended (net_form n m)) es s
    ∙ ap (λ l. ended (net_form n m) ++ l) (sym (append-nil (flat_map (λ e. ended (stock_form e)) (es ++ (s ∷ []))))))

text_arc : (n m : ℕ) (es : List (ℕ × ℤ)) (rs : List Road) (r : Road) → text_of n m es rs ++ ended (arc_form r) ≡ text_of n m es (rs ++ (r ∷ []))
text_arc n m es rs r =
    let head = ended (net_form n m) in
    let stocks = flat_map (λ e. ended (stock_form e)) es in
    let arcs = flat_map (λ e. ended (arc_form e)) in
    ap (λ l. l ++ ended (arc_form r)) (sym (append_assoc head stocks (arcs rs)))
    ∙ flat_map_more (λ e. ended (arc_form e)) (head ++ stocks) rs r
    ∙ append_assoc head stocks (arcs (rs ++ (r ∷ [])))

pub begun_more : (text : List ℕ) (n m : ℕ) (es es' : List (ℕ × ℤ)) (rs rs' : List Road) (place : ℕ) (form : List ℕ)
    → LineAt text place form → LineRead n m es rs form es' rs' → Begun text n m es rs place → Begun text n m es' rs' (place + (length form + 1))
begun_more text n m es es' rs rs' place form at (a_stock z s is fits free e f) b =
    subst (λ l. Begun text n m l rs' (place + (length form + 1))) (sym e) (subst (λ l. Begun text n m (es ++ (s ∷ [])) l (place + (length form + 1))) (sym f) (record {
      sized = b.sized;
      inside = omega (arith, at.inside);
      front = line_front text place form at ∙ ap (λ l. l ++ ended form) b.front ∙ ap (λ l. text_of n m es rs ++ ended l) is ∙ text_stock n m es rs s z;
      fitting = record {
        stocked = All-push _ es s b.fitting.stocked fits;
        once = once_more es s free b.fitting.once;
        ranged = b.fitting.ranged;
        passable = b.fitting.passable;
      };
      few = b.few;
    }))
begun_more text n m es es' rs rs' place form at (an_arc room r is range fit e f) b =
    subst (λ l. Begun text n m l rs' (place + (length form + 1))) (sym e) (subst (λ l. Begun text n m es l (place + (length form + 1))) (sym f) (record {
      sized = b.sized;
      inside = omega (arith, at.inside);
      front = line_front text place form at ∙ ap (λ l. l ++ ended form) b.front ∙ ap (λ l. text_of n m es rs ++ ended l) is ∙ text_arc n m es rs r;
      fitting = record {
        stocked = b.fitting.stocked;
        once = b.fitting.once;
        ranged = All-push _ rs r b.fitting.ranged range;
        passable = All-push _ rs r b.fitting.passable fit;
      };
      few = omega (arith, length_push rs r);
    }))

-- what a reader of lines knows at a place: the draft `d₀` that it began with has become `d`
pub record Reading (text : List ℕ) (d₀ d : Draft) (place : ℕ) : Type 0 where
  pub sizes : d.sizes ≡ d₀.sizes
  pub entries : List (ℕ × ℤ)
  pub roads : List Road
  pub begun : Begun text d.sizes.nodes d.sizes.arcs entries roads place
  pub holds : Holds d entries roads

pub reading_more : (text : List ℕ) (d₀ d d' : Draft) (place : ℕ) (form : List ℕ) → LineAt text place form → LineTook d form place d' (Ok tt) → Reading text d₀ d place
    → Reading text d₀ d' (place + (length form + 1))
reading_more text d₀ d d' place form at took h =
    let more = took.1 h.entries h.roads h.holds in
    let b = begun_more text d.sizes.nodes d.sizes.arcs h.entries more.0 h.roads more.1 place form at more.2 h.begun in
    record {
      sizes = took.0 ∙ h.sizes;
      entries = more.0;
      roads = more.1;
      begun = subst (λ k. Begun text k.nodes k.arcs more.0 more.1 (place + (length form + 1))) (sym took.0) b;
      holds = more.3;
    }

-- sizes as they were
resized : (text : List ℕ) (d₀ d : Draft) (e : Refusal) → d.sizes ≡ d₀.sizes → Stopped text d.sizes.nodes d.sizes.arcs e → Stopped text d₀.sizes.nodes d₀.sizes.arcs e
resized text d₀ d e s h = subst (λ k. Stopped text k.nodes k.arcs e) s h

pub line_stops : (text : List ℕ) (d₀ d : Draft) (place : ℕ) (form : List ℕ) (e : Refusal) → LineAt text place form
    → ((es : List (ℕ × ℤ)) (rs : List Road) → Holds d es rs → LineFault d.sizes.nodes d.sizes.arcs es rs form place e) → Reading text d₀ d place → Stopped text d₀.sizes.nodes d₀.sizes.arcs e
line_stops text d₀ d place form e at fault h =
    resized text d₀ d e h.sizes (bad_line h.entries h.roads place h.begun form at (fault h.entries h.roads h.holds))

pub end_stops : (text : List ℕ) (d₀ d : Draft) (place : ℕ) (e : Refusal) → NoLine text place → (place < length text) ⊎ (length d.roads.items < d.sizes.arcs) → SaysAt e 10 (length text)
    → Reading text d₀ d place → Stopped text d₀.sizes.nodes d₀.sizes.arcs e
end_stops text d₀ d place e none (inl l) says h = resized text d₀ d e h.sizes (no_end h.entries h.roads place h.begun none (inl l) says)
end_stops text d₀ d place e none (inr l) says h =
    resized text d₀ d e h.sizes (no_end h.entries h.roads place h.begun none (inr (subst (λ k. k < d.sizes.arcs) (ap length h.holds.roads_are) l)) says)

pub past_end : (text : List ℕ) (place : ℕ) → length text ≤ place → NoLine text place
past_end text place l k from to e = omega arith

-- the exit of a `?`
pub stops : (text : List ℕ) (d₀ d : Draft) (r : Result (Unit {0}) Refusal) (e : Refusal) → IsErrAnd r (λ y. y ≡ e) → Stopped text d₀.sizes.nodes d₀.sizes.arcs e → LinesTook text d₀ d r
stops text d₀ d (Ok x) e h s = absurd h
stops text d₀ d (Err y) e h s = subst (λ z. Stopped text d₀.sizes.nodes d₀.sizes.arcs z) (sym h) s
