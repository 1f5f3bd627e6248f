use Rattle.std.proofs.Common.{length, ap, sym, ◌∙◌, ◌++◌}
use Rattle.std.specs.Prelude.{drop}
use Rattle.std.proofs.lemmas.List.{map-append, drop-map}
use Rattle.teurlaks_c.specs.Words.{word_of, words_of}
use Rattle.teurlaks_c.proofs.words.write_words.Goals as goal

pub returns : goal.returns
returns c =
    map-append word_of c.split_all.new.room (drop (length c.args.values.now) c.args.room.now)
    ∙ ap (λ l. l ++ words_of (drop (length c.args.values.now) c.args.room.now)) c.split_all.ensures
    ∙ ap (λ l. c.args.values.now ++ l) (sym (drop-map word_of (length c.args.values.now) c.args.room.now))
