-- Why a text is refused: its first fault, in the order of its lines.
use Rattle.std.specs.Prelude.{◌≡◌, ℕ, ◌+◌, ◌<◌, ◌≤◌, true, cond, ◌⊎◌, List, [], ◌∷◌, ◌++◌, length, take, ℤ, Err, ◌==◌, ◌≢◌, nat_lt}
use Rattle.std.specs.List.{AllByRecursion}
use Rattle.network.specs.Limits.{max_text}
use Rattle.network.specs.Refusals.{Says, SaysAt}
use Rattle.network.specs.Roads.{Ranged, Passable}
use Rattle.network.specs.declared.refusal.Refusal.{Refusal}
use Rattle.network.specs.declared.road.Road.{Road}
use Rattle.forms.specs.Form.{net_items, stock_items, arc_items}
use Rattle.lines.specs.Line.{LineAt, NoLine}
use Rattle.forms.specs.Scan.{Item, scan}
use Rattle.lines.specs.Word.{spelt, furthest}
use Rattle.forms.specs.Written.{Misfit}
use Rattle.lines.specs.declared.word.Word.{Word}
use Rattle.lines.specs.declared.word.Word.TheVariants.{Net, Stock, Arc}
use Rattle.text.specs.Consignment.{text_of, stock_form, arc_form, Sized, Stocked, Fitting, named}

-- the words that may begin a line, after so many arcs of m
abbrev pub open_words : ℕ → ℕ → List Word
open_words m arcs = cond (arcs == 0) (Stock ∷ []) [] ++ cond (nat_lt arcs m) (Arc ∷ []) []

-- the form begins with none of the words, and departs from all of them where the fault is
pub record NoWord (words : List Word) (form : List ℕ) (place : ℕ) (e : Refusal) : Type 0 where
  pub none : AllByRecursion (λ w. (rest : List ℕ) → form ≢ spelt w ++ rest) words
  pub says : SaysAt e 10 (place + furthest words form)

-- the leftmost fault of bytes that do not have the form
pub record Faulty (items : List Item) (bs : List ℕ) (place : ℕ) (e : Refusal) : Type 0 where
  pub scanned : scan items bs place ≡ Err e
  pub misfit : Misfit items bs place e

-- what is wrong with the first line
pub data FirstFault (form : List ℕ) (e : Refusal) : Type 0 where
  no_word : NoWord (Net ∷ []) form 0 e → FirstFault form e
  bad_net : (rest : List ℕ) → form ≡ spelt Net ++ rest → Faulty net_items rest (length (spelt Net)) e → FirstFault form e

-- what is wrong with a later line, after these stocks and roads
pub data LineFault (n m : ℕ) (entries : List (ℕ × ℤ)) (roads : List Road) (form : List ℕ) (place : ℕ) (e : Refusal) : Type 0 where
  no_word : NoWord (open_words m (length roads)) form place e → LineFault n m entries roads form place e
  bad_stock : length roads ≡ 0 → (rest : List ℕ) → form ≡ spelt Stock ++ rest → Faulty (stock_items n) rest (place + length (spelt Stock)) e → LineFault n m entries roads form place e
  named_twice : length roads ≡ 0 → (s : ℕ × ℤ) → form ≡ stock_form s → Stocked n s → named entries s.0 ≡ true → SaysAt e 13 place → LineFault n m entries roads form place e
  bad_arc : length roads < m → (rest : List ℕ) → form ≡ spelt Arc ++ rest → Faulty (arc_items n) rest (place + length (spelt Arc)) e → LineFault n m entries roads form place e
  impassable : length roads < m → (r : Road) → form ≡ arc_form r → Ranged n r → (Passable r → ⊥) → SaysAt e 12 place → LineFault n m entries roads form place e

-- up to this place the text is the first line, stocks and arcs of a consignment
pub record Begun (text : List ℕ) (n m : ℕ) (entries : List (ℕ × ℤ)) (roads : List Road) (place : ℕ) : Type 0 where
  pub sized : Sized n m
  pub inside : place ≤ length text
  pub front : take place text ≡ text_of n m entries roads
  pub fitting : Fitting n entries roads
  pub few : length roads ≤ m

-- the first fault of a text that is read into rows with room for so many roads and stocks
pub data Refused (text : List ℕ) (road_room stock_room : ℕ) (e : Refusal) : Type 0 where
  too_long : max_text < length text → Says e 9 → Refused text road_room stock_room e
  no_first : length text ≤ max_text → NoLine text 0 → SaysAt e 10 (length text) → Refused text road_room stock_room e
  bad_first : length text ≤ max_text → (form : List ℕ) → LineAt text 0 form → FirstFault form e → Refused text road_room stock_room e
  short_rows : length text ≤ max_text → (n m place : ℕ) → Begun text n m [] [] place → (road_room < m) ⊎ (stock_room < n) → Says e 14 → Refused text road_room stock_room e
  no_end : length text ≤ max_text → (n m : ℕ) (entries : List (ℕ × ℤ)) (roads : List Road) (place : ℕ) → Begun text n m entries roads place → m ≤ road_room → n ≤ stock_room
      → NoLine text place → (place < length text) ⊎ (length roads < m) → SaysAt e 10 (length text) → Refused text road_room stock_room e
  bad_line : length text ≤ max_text → (n m : ℕ) (entries : List (ℕ × ℤ)) (roads : List Road) (place : ℕ) → Begun text n m entries roads place → m ≤ road_room → n ≤ stock_room
      → (form : List ℕ) → LineAt text place form → LineFault n m entries roads form place e → Refused text road_room stock_room e
