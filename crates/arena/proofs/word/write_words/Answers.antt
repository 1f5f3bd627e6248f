use Rattle.std.proofs.Common.{arith, length, ap, sym, ◌∙◌, ◌++◌, map}
use Rattle.std.specs.Prelude.{drop}
use Rattle.std.proofs.lemmas.List.{map-append, drop-map}
use Rattle.arena.proofs.OneWord.{map-set_first}
use Rattle.arena.proofs.word.write_words.Goals as goal

pub returns : goal.returns
returns g c =
    let word = g.W.Word.word in
    map-append word c.write_all.new.room (drop (length c.args.words.now) c.args.room.now)
    ∙ ap (λ l. l ++ map word (drop (length c.args.words.now) c.args.room.now)) c.write_all.ensures
    ∙ ap (λ l. c.args.words.now ++ l) (sym (drop-map word (length c.args.words.now) c.args.room.now))

pub returns-in-len1 : goal.returns-in-len1
returns-in-len1 g c = map-set_first g.W.Word.word c.args.room.now c.args.words.now c.of.result (omega (arith, c.in-len1.len_at_least, c.in-len1.len_below)) c.requires c.of.ensures
