-- What the program answers to a text.
use Rattle.std.specs.Prelude.{◌≡◌, ℕ, ◌≤◌, List, length, ℤ}
use Rattle.network.specs.Limits.{max_nodes, max_arcs, max_text}
use Rattle.network.specs.declared.refusal.Refusal.{Refusal}
use Rattle.network.specs.declared.road.Road.{Road}
use Rattle.text.specs.Consignment.{IsConsignment}
use Rattle.text.specs.Refused.{Refused}
use Rattle.account.specs.Accounts.{account_of}
use Rattle.account.specs.Lines.{account_lines}
use Rattle.print.specs.Refused.{refusal_line}

-- the account of the consignment that the text is
abbrev pub Accounts : List ℕ → List ℕ → Type 0
Accounts text bytes =
    (n m : ℕ) (stocks : List ℤ) (roads : List Road) → length text ≤ max_text → IsConsignment text n m stocks roads → bytes ≡ account_lines (account_of roads stocks)

-- the line of its first fault
abbrev pub Declines : List ℕ → List ℕ → Type 0
Declines text bytes = (e : Refusal) → Refused text max_arcs max_nodes e → bytes ≡ refusal_line e

-- the one or the other
pub data Decided (text : List ℕ) : Type 0 where
  consigned : length text ≤ max_text → (n m : ℕ) (stocks : List ℤ) (roads : List Road) → IsConsignment text n m stocks roads → Decided text
  refused : (e : Refusal) → Refused text max_arcs max_nodes e → Decided text

pub record Answers (text bytes : List ℕ) : Type 0 where
  pub decided : Decided text
  pub accounts : Accounts text bytes
  pub declines : Declines text bytes
