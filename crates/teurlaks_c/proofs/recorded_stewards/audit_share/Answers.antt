use Rattle.teurlaks_c.proofs.AuditedRun.{audited, goes_on}
use Rattle.teurlaks_c.proofs.recorded_stewards.audit_share.Goals as goal

pub returns-in-Ok : goal.returns-in-Ok
returns-in-Ok c = audited c.args.share.now c.end_share.new.share c.in-Ok.field-0 c.audit_ended.result c.in-Ok.ensures c.audit_ended.ensures

pub returns-in-Err : goal.returns-in-Err
returns-in-Err c = goes_on c.args.share.now c.end_share.new.share c.in-Err.status c.in-Err.ensures
