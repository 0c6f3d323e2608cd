-- A line that begins with no verb: some letter of each name is not there.
use Rattle.std.proofs.Common.{◌≡◌, take, rules}
use Rattle.sheet.specs.Verbs.{name}
use Rattle.sheet.specs.declared.verbs.Verb.TheVariants.{Card, Floor, Worn, Move, Open, Read, Same, Save}
use Rattle.sheet.proofs.Shown.{letters}
use Rattle.sheet.proofs.verbs.split_verb.Goals as goal

pub returns-in_default : goal.returns-in_default
returns-in_default c = λ v. elim v as (λ u. take 4 c.args.line.now ≡ name u → ⊥) [
  | Card ↦ λ e. let p = letters c.args.line.now 67 65 82 68 e in search rules
  | Floor ↦ λ e. let p = letters c.args.line.now 70 76 79 82 e in search rules
  | Worn ↦ λ e. let p = letters c.args.line.now 87 79 82 78 e in search rules
  | Move ↦ λ e. let p = letters c.args.line.now 77 79 86 69 e in search rules
  | Open ↦ λ e. let p = letters c.args.line.now 79 80 69 78 e in search rules
  | Read ↦ λ e. let p = letters c.args.line.now 82 69 65 68 e in search rules
  | Same ↦ λ e. let p = letters c.args.line.now 83 65 77 69 e in search rules
  | Save ↦ λ e. let p = letters c.args.line.now 83 65 86 69 e in search rules
]
