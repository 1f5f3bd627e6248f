use Rattle.std.proofs.Common.{refl}
use Rattle.teurlaks_c.specs.declared.share.Share.TheVariants.{RecordedSteward}
use Rattle.teurlaks_c.proofs.AuditedRun.{held}
use Rattle.teurlaks_c.proofs.recorded_stewards.end_share.Goals as goal

pub returns-in-RecordedSteward : goal.returns-in-RecordedSteward
returns-in-RecordedSteward c =
    held c.args.share.now (RecordedSteward c.end-ended.new.steward) c.hold.new.share c.in-RecordedSteward.steward c.end-ended.new.steward c.end-ended.result
    c.hold.result c.in-RecordedSteward.is refl
    c.end-ended.ensures c.hold.ensures
