use Rattle.groups.proofs.Tables.{made-table}
use Rattle.groups.proofs.late_table.made.Goals as goal

pub returns : goal.returns
returns g c = made-table c.in_ok-table.table c.in_ok-new.field-0.value c.args.room c.in_ok-new.ensures.ok c.in_ok-table.ensures.empty c.in_ok-table.ensures.spare
