-- `joined` returns the words of the text one after another, word by word; each is as long as a word may be.
use Rattle.std.proofs.Common.{◌++◌, suc, All, string_bytes, ap, subst, sym, ◌∙◌, append_assoc, suc-le-suc}
use Rattle.std.specs.List.{concat}
use Rattle.mail_words.specs.Words.{HasWordLength}
use Rattle.worked_parts.proofs.text_words.joined.Goals as goal

pub loop-word-preserved : goal.loop-word-preserved
loop-word-preserved c =
    let left = subst (All HasWordLength) c.in-Some.ensures.steps c.loop-word.invariant.bounded in
    record {
      whole = c.loop-word.invariant.whole ∙ ap (λ words. string_bytes c.loop-word.all ++ concat words)
          c.in-Some.ensures.steps
          ∙ sym (append_assoc (string_bytes c.loop-word.all) c.in-Some.word.now (concat c.next.new.self))
          ∙ ap (λ bytes. bytes ++ concat c.next.new.self) (sym c.in_ok-push_str.ensures.bytes);
      bounded = λ k d below. left (suc k) d (suc-le-suc below);
    }
