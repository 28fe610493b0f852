-- The first line.
use Rattle.std.proofs.Common.{◌≡◌, ℕ, ◌+◌, List, [], ◌∷◌, ◌++◌, length, take, IsErrAnd, Ok, Err, Result, sym, refl, ap, ◌∙◌, subst, append-nil, zero-add, arith}
use Rattle.network.specs.Refusals.{SaysAt}
use Rattle.network.specs.declared.refusal.Refusal.{Refusal}
use Rattle.forms.specs.Form.{net_items}
use Rattle.lines.specs.Line.{LineAt}
use Rattle.forms.specs.Scan.{Scanned, naturals}
use Rattle.lines.specs.Word.{spelt, furthest}
use Rattle.lines.specs.declared.word.Word.{Word}
use Rattle.lines.specs.declared.word.Word.TheVariants.{Net, Stock, Arc}
use Rattle.text.specs.Consignment.{net_form, ended, Sized}
use Rattle.text.specs.Refused.{Begun, Faulty, FirstFault, no_word, bad_net}
use Rattle.text.specs.Reader.{FirstRead}
use Rattle.text.specs.Drafts.{Stopped}
use Rattle.text.specs.declared.draft.Draft.{Draft}
use Rattle.text.specs.declared.sizes.Sizes.{Sizes}
use Rattle.text.proofs.Fronts.{line_front}
use Rattle.text.proofs.Lines.{BeginsNot, other_word, mark}
use Rattle.text.proofs.Values.{net_values, faulty}

pub net_good : (form rest : List ℕ) (start n m : ℕ) → form ≡ spelt Net ++ rest → Scanned net_items rest start (Ok (naturals (n, m))) → (form ≡ net_form n m) × Sized n m
net_good form rest start n m e read = let w = net_values rest start n m read in (e ∙ w.0, w.1)

pub net_bad : (form rest : List ℕ) (start : ℕ) (r : Result Sizes Refusal) (x : Refusal) → IsErrAnd r (λ y. y ≡ x) → form ≡ spelt Net ++ rest → start ≡ length (spelt Net) → Scanned net_items rest start (Err x) → FirstRead form r
net_bad form rest start (Ok s) x h e b read = absurd h
net_bad form rest start (Err y) x h e b read = bad_net rest e (subst (λ k. Faulty net_items rest k y) b (faulty _ rest start y (subst (λ z. Scanned net_items rest start (Err z)) (sym h) read)))

pub no_first_word : (form : List ℕ) (e : Refusal) → BeginsNot Net form → SaysAt e 10 (furthest (Net ∷ []) form) → FirstFault form e
no_first_word form e none says = no_word (record { none = (none, tt); says = subst (λ k. SaysAt e 10 k) (sym (zero-add (furthest (Net ∷ []) form))) says })

net_marked : (w : Word) → mark w ≡ mark Net → w ≡ Net
net_marked Net e = refl
net_marked Stock e = absurd (omega arith)
net_marked Arc e = absurd (omega arith)

pub other_first : (form : List ℕ) (w : Word) (rest : List ℕ) (e : Refusal) → form ≡ spelt w ++ rest → (w ≡ Net → ⊥) → SaysAt e 10 (furthest (Net ∷ []) form) → FirstFault form e
other_first form w rest e f ne says = no_first_word form e (λ more g. ne (net_marked w (other_word w Net form rest more f g))) says

pub begun_first : (text form : List ℕ) (n m : ℕ) → LineAt text 0 form → form ≡ net_form n m → Sized n m → Begun text n m [] [] (length form + 1)
begun_first text form n m at e s = record {
  sized = s;
  inside = omega (arith, at.inside);
  front = ap (λ k. take k text) (sym (zero-add (length form + 1))) ∙ line_front text 0 form at ∙ ap ended e ∙ sym (append-nil (ended (net_form n m)));
  fitting = record { stocked = tt; once = tt; ranged = tt; passable = tt };
  few = omega arith;
}

-- a new draft has the sizes of the first line
pub stopped_draft : (text : List ℕ) (d : Draft) (s : Sizes) (e : Refusal) → d.sizes ≡ s → Stopped text d.sizes.nodes d.sizes.arcs e → Stopped text s.nodes s.arcs e
stopped_draft text d s e same h = subst (λ k. Stopped text k.nodes k.arcs e) same h
