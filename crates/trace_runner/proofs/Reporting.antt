-- The start of a run, and the report of one.
use Rattle.trace_runner.proofs.Names.{◌≡◌, ◌++◌, ℕ, Bool, false, List, Option, Some, None, option_map, refl, rules, option_map_or, slice_get-map, empty_map, ShardState, CoreState, HasKeys, live_keys, new_shard, pages, shown, News, Serves, IsReportOf, start_of, end_line, IsRun, Ending, Header}
use Rattle.trace_text.specs.declared.trace.Trace.{Trace}

-- a new shard has not ended, whether or not there is one
not_ended : (page_limit span_limit slot_limit gens : ℕ) (o : Option ℕ) → option_map_or (λ (shard : ShardState). shard.ended) (option_map (new_shard page_limit span_limit slot_limit gens) o) false ≡ false
not_ended page_limit span_limit slot_limit gens None = refl
not_ended page_limit span_limit slot_limit gens (Some number) = refl

-- the core that a run starts with has the header's shards, and none has ended
pub Serves-start : (header : Header) → Serves header.shards (start_of header)
Serves-start header = search (rules, slice_get-map, not_ended)

module _ (trace : Trace) (replies : Bool) (start last : CoreState) (ending : Ending) (news : News) where
  -- what is written of a run is its report
  pub IsReportOf-run : start ≡ start_of trace.header → shown (start_of trace.header) ≡ empty_map → IsRun trace.header.shards replies trace.lines.items start last ending.calls news
      → ending.pages ≡ pages last → ending.live ≡ live_keys last → HasKeys (shown last) ending.live
      → (bytes certificate : List ℕ) → bytes ≡ news.text ++ end_line ending → certificate ≡ news.certificate → IsReportOf trace replies bytes certificate
  IsReportOf-run starts empty run pages_are live_are keys bytes certificate spelled certified = search rules
