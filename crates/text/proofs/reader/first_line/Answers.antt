use Rattle.std.proofs.Common.{◌≡◌, [], ◌∷◌, ◌∙◌, subst, zero-add, rules}
use Rattle.lines.specs.Word.{furthest}
use Rattle.lines.specs.declared.word.Word.TheVariants.{Net}
use Rattle.text.proofs.First.{net_good, net_bad, no_first_word, other_first}
use Rattle.network.specs.Refusals.{SaysAt}
use Rattle.text.proofs.reader.first_line.Goals as goal
use Rattle.text.proofs.reader.first_line.Goals.{in_default-via-in-Some+in_default, in_default-via-in_default}

pub returns-in_err-nodes-in-Some-Net-default : goal.returns-in_err-nodes-in-Some-Net-default
returns-in_err-nodes-in-Some-Net-default c =
    let k = c.in-Some-Net-default in
    let h = rw k.field-0-0-is at k.ensures in
    net_bad c.args.form.now k.rest.bytes.now k.rest.place c.from_residual.result _ c.from_residual.ensures.1 h.0
    (h.1 ∙ zero-add _) c.in_err-nodes-in-Some-Net-default.ensures

pub returns-in_ok-nodes-in-Some-Net-default : goal.returns-in_ok-nodes-in-Some-Net-default
returns-in_ok-nodes-in-Some-Net-default c =
    let k = c.in-Some-Net-default in
    let h = rw k.field-0-0-is at k.ensures in
    net_good c.args.form.now k.rest.bytes.now k.rest.place _ _ h.0 c.in_ok-nodes-in-Some-Net-default.ensures

pub returns-in_default : goal.returns-in_default
returns-in_default c =
    let says : SaysAt c.no_word.result 10 (furthest (Net ∷ []) c.args.form.now) = subst (SaysAt c.no_word.result 10) (zero-add _) c.no_word.ensures in
    elim c.in_default.branch [
      | in_default-via-in-Some+in_default w ↦ (let k = w.in_default in
          let ne : k.field-0.0 ≡ Net → ⊥ = search rules in
          let h = rw k.is at c.word.ensures in
          other_first c.args.form.now k.field-0.0 k.field-0.1.bytes.now c.no_word.result h.0 ne says)
      | in_default-via-in_default w ↦ (let none = rw w.in_default.is at c.word.ensures in no_first_word c.args.form.now c.no_word.result (none Net) says)
    ]
