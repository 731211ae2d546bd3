-- `media_type` returns the text before the first semicolon if it has a slash, and the default if not, as defined.
use Rattle.mime_text.proofs.Words.{◌≡◌, ◌∙◌, ◌==◌, ℕ, Bool, true, false, List, Bor, Option, Some, None, refl, sym, rules, not, if◌then◌else◌, option_map, unwrap_or, without_outer_blanks, split_while, split_while-cut, split_while-free, cut_at, DefaultType, arith}
use Rattle.mime_text.specs.Types.{type_text, has_slash, default_type, media_type}
use Rattle.mime_text.specs.declared.parts.shape.DefaultType.TheVariants.{TextPlain, MessageRfc822}
use Rattle.mime_text.proofs.parts.content_type.media_type.Goals as goal

front : (value e : Bor (List ℕ)) (o : Option (Bor (List ℕ) × Bor (List ℕ))) → option_map (λ p. (p.0.now, p.1.now)) o
    ≡ cut_at 0x3B value.now
    → (unwrap_or o (value, e)).0.now ≡ (split_while (λ b. not (b == 0x3B)) value.now).0
front value e None h = sym (split_while-free 0x3B value.now (sym h))
front value e (Some (a, b)) h = grind (arith, split_while-cut)

chosen : (default : DefaultType) (value e : Bor (List ℕ)) (o : Option (Bor (List ℕ) × Bor (List ℕ)))
    (parts : Bor (List ℕ) × Bor (List ℕ)) (text : List ℕ) (b : Bool)
    → option_map (λ p. (p.0.now, p.1.now)) o ≡ cut_at 0x3B value.now → parts ≡ unwrap_or o (value, e) → text
    ≡ without_outer_blanks parts.0.now → has_slash text ≡ b
    → (if b then text else default_type default) ≡ media_type default value.now
chosen default value e o parts text b h i j k =
    let named : text ≡ type_text value.now = cc (front value e o h) in
    rw (← named, k) refl

pub returns-then-contains : goal.returns-then-contains
returns-then-contains c = chosen c.args.default c.args.value _ c.cut_at.result _ c.trimmed-text.result.now true
    c.cut_at.ensures c.unwrap_or.ensures c.trimmed-text.ensures (search rules)

pub returns-in-TextPlain : goal.returns-in-TextPlain
returns-in-TextPlain c =
    rw c.in-TextPlain.is (chosen TextPlain c.args.value _ c.cut_at.result _ c.trimmed-text.result.now false
    c.cut_at.ensures c.unwrap_or.ensures c.trimmed-text.ensures (search rules))

pub returns-in-MessageRfc822 : goal.returns-in-MessageRfc822
returns-in-MessageRfc822 c =
    rw c.in-MessageRfc822.is (chosen MessageRfc822 c.args.value _ c.cut_at.result _ c.trimmed-text.result.now false
    c.cut_at.ensures c.unwrap_or.ensures c.trimmed-text.ensures (search rules))
