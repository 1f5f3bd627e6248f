-- The names that most proofs of this crate cite, passed on from one place.
pub use Rattle.std.proofs.Common.{map-id, true≢false, ◌≡◌, ◌∙◌, ◌+◌, ◌++◌, ◌∷◌, [], ℕ, true, false, List, map, length, filter, Some, None, refl, sym, ap, subst, arith, append_assoc, length-append, zero, suc, ◌-◌, ◌^◌, ◌<◌, ◌≤◌, Option, drop, get_or, replicate, slice_get, take, ◌⊎◌, inl, inr, Bool, cond, nat_lt, option_map, rules, ◌==◌, ◌&&◌, ◌||◌, nat_le, not, ap₂, add-zero, unwrap_or, option_and_then, is_some, set, Result, Ok, Err, MatchResult, zero-add, OnOk, of_calls, if◌then◌else◌, length-drop}
pub use Rattle.std.proofs.KnownBytes.{Appends-trans, Keeps-trans, Keeps-refl}
pub use Rattle.std.proofs.Math.Bool.{and-true, and-false}
pub use Rattle.std.proofs.Math.Seq.{drop-length, get_or-append_right, take-length, take-add}
pub use Rattle.std.proofs.lemmas.Bool.{cases_Bool, cases_lt, and_parts, eqb-true, not-true, cases_eq, leb-false, leb-true, le-leb}
pub use Rattle.std.proofs.lemmas.Bool.Decides.{nat_tests}
pub use Rattle.std.proofs.lemmas.Grind.{flat_map-append, replicate_next, common_steps}
pub use Rattle.std.proofs.lemmas.List.{append-nil, drop-append-le, length-map, length-replicate, length-take-le, map-append, take-append-le, take_all, length_push, take-append-drop}
pub use Rattle.std.proofs.lemmas.List.Elements.{filter-append}
pub use Rattle.std.proofs.lemmas.List.FromFn.{length-range_with_len, filter_of_map_range_with_len_more, map-range_with_len_more}
pub use Rattle.std.proofs.lemmas.Option.{slice_get_past, slice_get_within, slice_get-map, get_or_from_slice_get, slice_get-get_or}
pub use Rattle.std.proofs.lemmas.Result.{on_ok_weaker, err_from_is_err_and}
pub use Rattle.std.specs.Io.KnownBytes.{Appends, Keeps, WriteAppends}
pub use Rattle.std.specs.List.{fold, range_with_len, flat_map, AllByRecursion}
pub use Rattle.std.specs.Option.{option_map_or, option_or}
pub use Rattle.arena_core.proofs.Limits.{limits-CoreStep, limits-CoreRun}
pub use Rattle.arena_core.proofs.Lists.{each-append}
pub use Rattle.arena_core.specs.Plain.{ErasedStep, PlainRun, erased, is_plain, PlainStep}
pub use Rattle.arena_core.specs.Rings.{with_keys, with_ring_at, pending_at}
pub use Rattle.arena_core.specs.Sound.{HasSoundGroups, IsSound}
pub use Rattle.arena_core.specs.State.{CoreState, with_rings, opened_by, opened_of, shown, HasKeys, live_keys, new_shard, pages, with_shard}
pub use Rattle.arena_core.specs.Step.{CoreStep, CoreRun}
pub use Rattle.arena_core.specs.declared.event.Event.{Event}
pub use Rattle.arena_core.specs.declared.event.Event.TheVariants.{Free, Settle, Put, Get, Set, Later, End, Adopt, Mark, Begin, Retire, Trim}
pub use Rattle.arena_core.specs.declared.reply.Refusal.{Refusal}
pub use Rattle.arena_core.specs.declared.reply.Reply.{Reply}
pub use Rattle.arena_core.specs.declared.reply.Reply.TheVariants.{Freed, Settled, Issued, ShardEnded, Found, Replaced, Sent, ShardBegun, Retired, Trimmed, Adopted, Refused}
pub use Rattle.marks.specs.Numbers.{Limits}
pub use Rattle.pool.specs.State.{PoolState}
pub use Rattle.shard.specs.Calls.{Puts, Frees, Sets}
pub use Rattle.shard.specs.State.{ShardState, begun}
pub use Rattle.span.specs.Classes.{class_of}
pub use Rattle.span.specs.Log.{Value}
pub use Rattle.span.specs.PlainMap.{PlainMap, empty_map}
pub use Rattle.span.specs.declared.class.Class.{Class}
pub use Rattle.span.specs.declared.id.SpanId.{SpanId}
pub use Rattle.span.specs.declared.key.Key.{Key}
pub use Rattle.trace_runner.specs.Answers.{told_of, answer_told, on_line, put_told}
pub use Rattle.trace_runner.specs.Given.{AreInRow, all_given, given_in}
pub use Rattle.trace_runner.specs.Kept.{Kept, keeping, AreHome, IsHome, is_put, keys_of, FindsAt, kept_none, FindsOne, Recalls, kept_of, kept_in}
pub use Rattle.trace_runner.specs.Made.{AreAsRequested, CalledEvent, Called, Made, Once, Request, Tends, UntilNone, keys_taken, requests_of, takes_key, all_called, events_of, replies_of, Asked, Calls, Keyless, Leaves, IsAsAsked, asked_of, core_called, event_called, no_call, one_call, reply_called, Did, all_made, made_by}
pub use Rattle.trace_runner.specs.News.{News, with_called, with_all_made, with_made, news_of, no_news, with_answers, with_line, news_from, with_news}
pub use Rattle.trace_runner.specs.Recalls.{Carries, Drains, KeepsPlan, Makes, SettlesNext, MakesLine, news_at, settling_with, KeepsShards, CanLeave, TurnsBelow, HasCome, IsReady, KnowsPlan, Serves, EndsOne, IsOpen, IsPutServed, IsServed, IsSetServed, MayCall, MeetsPlan, Resumes, ended_at, reply_to_put, EndsBelow, has}
pub use Rattle.trace_runner.specs.Replay.{IsReportOf, start_of, IsNoFault}
pub use Rattle.trace_runner.specs.Report.{answer_line, end_line, number_word, fold_line, id_word, step_line}
pub use Rattle.trace_runner.specs.RunState.{KeepsAll, MakesAt, frees_in, leavers_in, lines_in}
pub use Rattle.trace_runner.specs.Runs.{puts_asked, AreSteps, IsAnswered, key_given, Happens, IsCallTold, IsTold, ends_asked, plan_end_asked, rings_asked, stepping, pairs_left_of, DoLines, Does, IsRun, asked_by, calls_at, calls_in, planning_at, settling_at, key_at, key_bound, key_made, on_key, key_of}
pub use Rattle.trace_runner.specs.declared.key_list.Stretch.{Stretch}
pub use Rattle.trace_runner.specs.declared.plans.Plans.{Plans}
pub use Rattle.trace_runner.specs.declared.report.Ending.{Ending}
pub use Rattle.trace_text.proofs.Clips.{all_fine}
pub use Rattle.trace_text.specs.Causes.{begins, begins_again, comes_early, ends, has_ended, first_cause, is_abandoned, is_adopt, is_call, is_call_of, reads_early, thread_of, binding_at, binding_from, binding_of, has_key, has_range, keys_at, keys_in, marks, marks_at}
pub use Rattle.trace_text.specs.Objects.{counted_from}
pub use Rattle.trace_text.specs.Places.{place_at, first_of}
pub use Rattle.trace_text.specs.declared.header.Header.{Header}
pub use Rattle.trace_text.specs.declared.line.Line.{Line}
