use Rattle.std.proofs.Common.{◌≡◌, ℕ, Bool, false, List, Some, None, Option, position, sym, refl, ap, ◌∙◌}
use Rattle.std.specs.Option.{is_some}
use Rattle.std.proofs.lemmas.Bool.{both_ways}
use Rattle.caps.specs.Caps.{names}
use Rattle.caps.specs.declared.places.CapEntry.{CapEntry}
use Rattle.caps.specs.declared.table.AddError.TheVariants.{Full}
use Rattle.caps.proofs.Rows.{no_value, none_names}
use Rattle.caps.proofs.table.CapTable.add.Goals as goal

-- the arc has no entry where none was found
not_found : (ps : List (Option CapEntry)) (a b : ℕ) (o : Option ℕ) (found : Bool) → b ≡ a → o ≡ position (names b) ps → found ≡ is_some o → found ≡ false → position (names a) ps ≡ None
not_found ps a b None found same is test none = ap (λ n. position (names n) ps) (sym same) ∙ sym is
not_found ps a b (Some p) found same is test none = absurd (both_ways found none test)

pub returns-in_err-place : goal.returns-in_err-place
returns-in_err-place c =
    let none = not_found c.args.self.now c.args.entry.arc _ _ _ c.from.ensures c.find.ensures.value c.is_some.ensures c.if-is_some.false in
    let full = no_value c.free_place.result Full _ _ c.from_residual.ensures.1 c.in_err-place.ensures.value in
    record {
      value = rw full.1 (refl, (none, sym c.free_place.ensures ∙ full.0));
      kept = (c.find.ensures.kept, c.find.ensures.kept);
    }

pub put-requires-clause-alone : goal.put-requires-clause-alone
put-requires-clause-alone c =
    let none = not_found c.args.self.now c.args.entry.arc _ _ _ c.from.ensures c.find.ensures.value c.is_some.ensures c.if-is_some.false in
    λ k is. absurd (both_ways (names c.args.entry.arc _) (none_names c.args.self.now c.args.entry.arc none k) is)
