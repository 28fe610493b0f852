use Rattle.std.proofs.Common.{w32, SFits, rules}
use Rattle.std.proofs.lemmas.Int.{to_z-of_z}
use Rattle.forms.proofs.Numerals.{number_within}
use Rattle.forms.proofs.Steps.{number_taken}
use Rattle.forms.proofs.rest.Cursor.number.Goals as goal

pub returns : goal.returns
returns c =
    let f : SFits w32 c.in_ok-value.value = search rules in
    let p = c.in_ok-value.ensures in
    simp to_z-of_z (record {
      reads = record { is = λ more. number_taken _ _ c.args.self.now.bytes.now c.args.self.now.place _ c.in_ok-value.value more p.0 p.1 };
      within = number_within _ _ c.args.self.now.bytes.now c.args.self.now.place _ p.0;
    })
