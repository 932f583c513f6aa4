-- `create_export`: by the payload of the statement.
use native.Mathlib.Omega.{arith}
use Rattle.output.specs.Overlay.{wrote_none}
use Rattle.transform.specs.Contract.{word_below}
use Rattle.transform.specs.Leaves.{export_default, export_none, export_own, wrote_as}
use Rattle.transform.proofs.create_export.Goals as goal

pub returns-in-0 : goal.returns-in-0
returns-in-0 c = wrote_as (export_none (word_below c.args.c) c.args.symbol c.args.x c.in-0.is) (wrote_none _ _)

pub returns-in-1 : goal.returns-in-1
returns-in-1 c = wrote_as (export_own (word_below c.args.c) c.args.symbol c.args.x c.in-1.is) c.put.ensures

pub returns-in_default : goal.returns-in_default
returns-in_default c = wrote_as (export_default (word_below c.args.c) c.args.symbol c.args.x (λ e. omega arith) (λ e. omega arith)) c.put-in_default.ensures
