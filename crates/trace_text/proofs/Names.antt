-- The names that most proofs of this crate cite, passed on from one place.
pub use Rattle.std.proofs.Common.{◌≡◌, ℕ, ◌&&◌, ◌||◌, not, Bool, true, false, cond, List, [], ◌∷◌, ◌++◌, Option, Some, reverse, refl, ap, ◌∙◌, rules, ◌+◌, ◌-◌, ◌<◌, ◌^◌, arith, ◌⊎◌, length, None, is_some, sym, inl, inr, Ok, Err, if◌then◌else◌, option_map, ◌≤◌, nat_lt, nat_le, ap₂, ◌*◌, take, get_or, ◌==◌, drop, Result, IfOk, IfErr, subst, append_assoc, append-nil, Bor, zero, suc, map, slice_get, codes, slice_index, ◌%◌, eqb-true, eq-eqb, length-set, lt-ltb, of_calls, tests}
pub use Rattle.std.proofs.lemmas.Bool.{cases_Bool, cases_lt, and_parts, or_left, or_right, cases_eq, ltb-false, ltb-true}
pub use Rattle.std.proofs.lemmas.Bool.Decides.{nat_tests}
pub use Rattle.std.proofs.lemmas.Grind.{common_steps}
pub use Rattle.std.proofs.lemmas.List.{reverse-append, reverse-reverse, length-append, take-append-drop, same_lists, length-map, take_rest}
pub use Rattle.std.proofs.lemmas.List.Folds.{find-append, find_at, list_any_at, list_any_none}
pub use Rattle.std.proofs.lemmas.List.FromFn.{fill_by_all, get_or-map-range_with_len, length-map-range_with_len, map-range_with_len_more, get_or-range_with_len, length-range_with_len}
pub use Rattle.std.proofs.lemmas.List.Sums.{take_while-cons, fails_before_first, position_or_len_is}
pub use Rattle.std.proofs.lemmas.Option.{get_or_from_slice_get, slice_get-get_or, slice_get_within, cond_some, option_and_then_some, slice_get_read}
pub use Rattle.std.proofs.lemmas.Result.{err_from_is_err_and}
pub use Rattle.std.proofs.lemmas.Slice.Eq.{bytes_eq-Decides}
pub use Rattle.std.proofs.lemmas.Str.Parse.{digits_value-take-le, digit_at}
pub use Rattle.std.specs.Int.{IsInRange}
pub use Rattle.std.specs.List.{find, take_while, position, range_with_len, onto_first}
pub use Rattle.std.specs.Option.{option_map_or, option_or, option_and_then}
pub use Rattle.std.specs.Str.{bytes_eq}
pub use Rattle.std.specs.Str.Parse.{AllDigits, digits_value}
pub use Rattle.certificate.proofs.Digits.{value_more, is_digit-range, AllDigits-from_test}
pub use Rattle.certificate.proofs.Spelling.{same_bytes, word-number}
pub use Rattle.certificate.specs.Number.{clip, number_in}
pub use Rattle.certificate.specs.Words.{contents_of}
pub use Rattle.span.proofs.Widths.{width_of-least, class_with-width, number_of-most, number_of-width, width_of-class_with, width_of-injective, width_of-most}
pub use Rattle.span.specs.declared.class.Class.{Class}
pub use Rattle.span.specs.declared.class.Class.TheVariants.{C16}
pub use Rattle.span.specs.declared.limits.TheConstants.{MOST_SHARDS, MOST_RING_KEYS}
pub use Rattle.trace_text.specs.AllLines.{AreInOrder, is_at, line_kept}
pub use Rattle.trace_text.specs.Causes.{begins, ends, has_ended, binding_at, binding_from, binding_of, binds_again, call_binding, first_cause, is_call, is_call_over, keys_at, keys_in, marks, marks_at, classed, comes_early, is_call_of, reads_unknown, class_named, is_of_kind, begins_again, bound_name, read_name, has_key, has_range, has_keys, holds, BeginsAtFault, HasCause, IsNextLine, AreReadAs, SaysAfter, awaits_mark, IsSound, IsFirstFault}
pub use Rattle.trace_text.specs.Earlier.{Few, IsFew, Knows, NotesEnd, NotesLeaving, NotesNames, awaits_after}
pub use Rattle.trace_text.specs.Form.{form_of, HasForm, counted_call, form_of_words, thread_line, valued_call, AreWords, Verb, Word, Number, Named, Refers, IsWord, SaysLine, has_verb, class_filled, class_put, fill_verb, put_verb, set_verb, retire_verb, verb_of, words_of_call, bare_call, key_call, retire_call, aimed_call, with_name, value_call, set_call, with_two, one_word, two_words, class_behind, class_of_bytes, class_of_size, is_binding_verb, size_text}
pub use Rattle.trace_text.specs.Header.{IsWithinLimits, BeginWith, FailsField, FailsHeader, Field, HasHeader, IsAtFault, IsHeaderFault, IsWithin, Opening, SaysNumber, Size, field_in, fields, number_of, numbers_of, opening_of}
pub use Rattle.trace_text.specs.Objects.{last_word}
pub use Rattle.trace_text.specs.Places.{unless, place_at, places_from, place_by}
pub use Rattle.trace_text.specs.Reference.{clip_reference, reference_in}
pub use Rattle.trace_text.specs.Within.{IsNextUnlessBound, cause_but_bound, within, clip_line, is_value_over, clip_call}
pub use Rattle.trace_text.specs.Words.{lines_of, without_empty_end, words_of}
pub use Rattle.trace_text.specs.declared.cause.Cause.{Cause}
pub use Rattle.trace_text.specs.declared.cause.Cause.TheVariants.{Limit, Thread, Ended, Adopt, Bound, Unknown, Early}
pub use Rattle.trace_text.specs.declared.cause.ParseError.{ParseError}
pub use Rattle.trace_text.specs.declared.cause.ParseError.TheVariants.{OutOfMemory, BadTrace}
pub use Rattle.trace_text.specs.declared.header.Header.{Header}
pub use Rattle.trace_text.specs.declared.header.Version.{Version}
pub use Rattle.trace_text.specs.declared.line.Binding.{Binding}
pub use Rattle.trace_text.specs.declared.line.Call.{Call}
pub use Rattle.trace_text.specs.declared.line.Call.TheVariants.{Begin, Put, Fill, Set, Get, Free, Sweep, Later, Retire, Tend, Trim, End}
pub use Rattle.trace_text.specs.declared.line.Keys.{Keys}
pub use Rattle.trace_text.specs.declared.line.Keys.TheVariants.{One, Many}
pub use Rattle.trace_text.specs.declared.line.Line.{Line}
pub use Rattle.trace_text.specs.declared.line_list.KeptLine.{KeptLine}
pub use Rattle.trace_text.specs.declared.name.Reference.{Reference}
