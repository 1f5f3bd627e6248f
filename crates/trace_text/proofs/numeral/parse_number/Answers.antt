use Rattle.trace_text.proofs.Names.{rules, AllDigits-from_test}
use Rattle.trace_text.proofs.numeral.parse_number.Goals as goal

pub value_of-requires : goal.value_of-requires
value_of-requires c = search (rules, AllDigits-from_test)
