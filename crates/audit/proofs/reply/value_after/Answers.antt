use Rattle.std.proofs.Common.{option_map, rules}
use Rattle.audit.proofs.BySlot.{holds_none, holds_last}
use Rattle.audit.proofs.reply.value_after.Goals as goal

pub returns-in_err-last : goal.returns-in_err-last
returns-in_err-last c = search (rules, option_map, holds_none)

pub returns : goal.returns
returns c = search (rules, holds_last)
