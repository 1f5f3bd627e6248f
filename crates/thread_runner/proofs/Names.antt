-- The names that most proofs of this crate cite, passed on from one place.
pub use Rattle.std.proofs.Common.{map-id, get_or-set_other, get_or-set_same, zero, suc, ◌≡◌, ◌∙◌, ◌<◌, ◌++◌, ◌==◌, ℕ, List, [], ◌∷◌, ap, append-nil, append_assoc, arith, length, map, refl, slice_index_or, slice_set, subst, sym, rules, if◌then◌else◌, filter, ◌+◌, ◌≤◌, Bool, true, false, Some, length-append, slice_get, take, zero-add, add-zero, inl, inr, nat_le, ◌-◌, ◌&&◌, Option, None, nat_lt, set, drop, cond, option_map, is_some, not, get_or, vec_items, Vec, codes, of_calls, OnOk, IsTrue, ◌⊎◌, vec_len, Err, ◌^◌}
pub use Rattle.std.proofs.lemmas.Bool.{ltb-true}
pub use Rattle.std.proofs.lemmas.Bool.Decides.{eqb_tells, nat_tests}
pub use Rattle.std.proofs.lemmas.Grind.{flat_map-append}
pub use Rattle.std.proofs.lemmas.List.{length-map, take_all, map-append, length-take-le, map-set}
pub use Rattle.std.proofs.lemmas.List.Elements.{filter-append}
pub use Rattle.std.proofs.lemmas.List.FromFn.{length-range_with_len, map-range_with_len_more}
pub use Rattle.std.proofs.lemmas.List.Sorted.{IsPermutation-append_comm, IsPermutation-append_left, IsPermutation-append_right, IsPermutation-refl, IsPermutation-trans, IsPermutation-sym, IsNonDecreasingBy-from_sort_by_key}
pub use Rattle.std.proofs.lemmas.List.Sums.{sum_by-cons, sum_by_push, sum_by-append, fold-append, take_while-cons}
pub use Rattle.std.proofs.lemmas.Option.{same_Some, slice_get_within, slice_get_read, slice_get-map}
pub use Rattle.std.proofs.lemmas.Result.{on_ok_weaker, IfOk-weaker, err_from_is_err_and}
pub use Rattle.std.specs.FinSet.{len, from_list, insert}
pub use Rattle.std.specs.List.{All, AllByRecursion, sum_by, flat_map, range_with_len, take_while}
pub use Rattle.std.specs.List.Sorted.{IsPermutation, IsNonDecreasingBy, IsStableByKey, ties}
pub use Rattle.std.specs.Option.{option_map_or}
pub use Rattle.std.specs.Vec.Iter.{into_iter_items}
pub use Rattle.arena.specs.Receipts.{joined, free_receipt, get_receipt, put_receipt, set_receipt, done_by}
pub use Rattle.arena.specs.Seats.{KeepsEnds, SeatState, sending_side, sent_lists, taken_lists, AreLinked, sent_on, taken_on, Standing, first_standing, standing, Table}
pub use Rattle.arena.specs.Tended.{IsTended}
pub use Rattle.arena_core.proofs.Lists.{each-append}
pub use Rattle.audit.proofs.Replies.{take_more}
pub use Rattle.groups.proofs.Lists.{before-map, in_either, same_some}
pub use Rattle.groups.proofs.Maps.{drop_step}
pub use Rattle.groups.specs.Spans.{live_count}
pub use Rattle.remote_queue.specs.Rings.{AreFreshInboxes, AreFreshOutboxes, Sending, Taking}
pub use Rattle.span.proofs.Next.{same_key-parts}
pub use Rattle.span.proofs.Slots.{live_slots-put, live_slots-free, live_slots-empty}
pub use Rattle.span.specs.KeptLogs.{kept_changes}
pub use Rattle.span.specs.Log.{Value, live_slots, Contents}
pub use Rattle.span.specs.ReceiptLists.{kept_receipts}
pub use Rattle.span.specs.SpanLogs.{span_of_log}
pub use Rattle.span.specs.Views.{viewed}
pub use Rattle.span.specs.declared.key.Key.{Key}
pub use Rattle.span.specs.declared.receipt.Receipt.{Receipt}
pub use Rattle.span.specs.declared.span_log.SpanLog.{SpanLog}
pub use Rattle.thread_runner.specs.Asked.{frees_from, GivenKeys, is_line_of, places_from, places_of, replies_at, replies_in, replies_on, AreAnswers, Frees, Outcome, Puts, Said, asked_at, asked_by, is_adoption, replies_by, Answers, Asked, Tends, Took, Called, Gets, IsKeptBack, IsSetTo, Sets, is_look_up, IsFreeBy, Begins, Ends, puts_from, Leaves, Left, Retires, Trims}
pub use Rattle.thread_runner.specs.Followed.{Carried, carried_by, is_of_shard, keys_of, AreDelivered, AnswersLine, ArePassages, AtBarrier, AtLine, FollowsLines, IsPassage, Passage, barriers_after, entries_in, entries_on, places_in, receipts_from, receipts_in, sent_by, sent_in, taken_by, taken_in, AreVoices}
pub use Rattle.thread_runner.specs.Grown.{Carries, HaveNothing, AreDiaries, IsDiaryOf, Grows, IsEmptyDiary, Rests, TellsTending, Tells, TellsAdoption, Tracks, Seated, seated}
pub use Rattle.thread_runner.specs.Known.{AreApart, AreFresh, AreKept, IsGiven, given_by, key_from, AreKnown}
pub use Rattle.thread_runner.specs.Laid.{AddsAt, AreLaid, AreFirsts}
pub use Rattle.thread_runner.specs.Marked.{AreNotesTo, IsCarriedOut, IsMarkMade, MarkMade, PlanMade, barrier_from, certificate_after, is_mark, is_mark_at, mark_notes, mark_number, marks_above, note_at, note_closed, note_planned, place_marked, plan_notes, taken_pair, text_after, AreNotesOf}
pub use Rattle.thread_runner.specs.Noted.{HaveCome, pairs_done, pairs_left, plan_pairs}
pub use Rattle.thread_runner.specs.Report.{count_above, body_text}
pub use Rattle.thread_runner.specs.Sections.{AreResting, IsResting, TellsFrom, TellsLine}
pub use Rattle.thread_runner.specs.Threaded.{AreByLine, IsAuditStop, IsRunStop, IsThreadedReport, StopsThreads, TellsAll, is_on, told_replies, IsNoFault}
pub use Rattle.thread_runner.specs.Told.{voice_of, is_free, lineless, Voice, diary_lines, voice_lines, call_line, told_lines}
pub use Rattle.thread_runner.specs.declared.body.Note.{Note}
pub use Rattle.thread_runner.specs.declared.diary.Diary.{Diary}
pub use Rattle.thread_runner.specs.declared.keys.Given.{Given}
pub use Rattle.thread_runner.specs.declared.worker.Resting.{Resting}
pub use Rattle.trace_runner.proofs.Homes.{each-parts}
pub use Rattle.trace_runner.specs.declared.report.LineAnswer.{LineAnswer}
pub use Rattle.trace_text.proofs.Clips.{all_fine}
pub use Rattle.trace_text.specs.Causes.{IsSound, is_adopt, keys_in, marks, keys_at, marks_at}
pub use Rattle.trace_text.specs.Objects.{counted_from}
pub use Rattle.trace_text.specs.Trace.{IsTrace, IsReadAs}
pub use Rattle.trace_text.specs.declared.header.Header.{Header}
pub use Rattle.trace_text.specs.declared.line.Call.{Call}
pub use Rattle.trace_text.specs.declared.line.Line.{Line}
