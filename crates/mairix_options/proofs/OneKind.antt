-- A command without subcommands refuses any words with at most one kind of error.
use Rattle.mairix_options.proofs.Words.{◌≡◌, ◌&&◌, ℕ, zero, suc, Bool, true, false, List, [], ◌∷◌, Option, Some, None, length, drop, slice_get, encode_utf8, sym, subst, arith, if◌then◌else◌, is_some, option_map_or, chars, bytes_eq}
use Rattle.clap.specs.Lexer.{long_of, short_of}
use Rattle.clap.specs.Values.{refused_kind}
use Rattle.clap.specs.ValueTests.{accepts}
use Rattle.clap.specs.Walk.{Held, Row, Rule, Step, Text, Waiting, Walk, arg_by_index, arg_by_long, attached_value, is_pending, reacted, settled, subcommand_met, takes_several, takes_values, walk, walk_from, walked, with_default, next, trailing, subcommand, value}
use Rattle.clap.specs.Simple.{App, Shape, built}
use Rattle.clap.specs.Kinds.{Kinds, check_kinds, or_else, range_kinds, value_kinds, values_kinds}
use Rattle.clap.specs.Faults.{count_fault, set_fault, action_fault, use_fault, settle_fault, react_fault, option_fault, long_fault, short_fault, bundle_step_fault, flags_fault, bundle_fault, flag_word_fault, other_fault, word_fault, positional_fault, stray_fault, step_fault, turn_fault, walk_fault, default_fault, defaults_fault, level_fault, fault_of}
use Rattle.clap.specs.declared.builder.action.ArgAction.{ArgAction}
use Rattle.clap.specs.declared.builder.value_parser.ValueParser.{ValueParser}
use Rattle.clap.specs.declared.error.kind.ErrorKind.TheVariants as kind
use Rattle.clap.proofs.FaultLemmas.{leaf_fault}

-- at most one kind
abbrev pub One : Kinds → Type 0
One [] = Unit {0}
One (k ∷ []) = Unit {0}
One (k ∷ l ∷ ks) = ⊥

pub one_or_else : (a b : Kinds) → One a → One b → One (or_else a b)
one_or_else a b h h2 = grind arith

pub one_if : (b : Bool) (x y : Kinds) → One x → One y → One (if b then x else y)
one_if b x y h h2 = grind arith

pub one_option : {X : Type 0} (f : X → Kinds) (o : Option X) → ((x : X) → One (f x)) → One (option_map_or f o [])
one_option f o h = grind arith

one_value : (i : Bool) (p : ValueParser) (t : Text) → One (value_kinds i p t)
one_value i p t = one_if (accepts i p t) [] (refused_kind p ∷ []) tt tt

one_values : (i : Bool) (p : ValueParser) (ts : List Text) → One (values_kinds i p ts)
one_values i p [] = tt
one_values i p (t ∷ ts) = one_or_else (value_kinds i p t) (values_kinds i p ts) (one_value i p t) (one_values i p ts)

one_count : (a : Rule) (vs : List Text) (rows : List Row) → One (count_fault a vs rows)
one_count a vs rows = grind (arith, one_value, one_values)

one_set : (again : Bool) (a : Rule) (vs : List Text) (rows : List Row) → One (set_fault again a vs rows)
one_set again a vs rows = grind (arith, one_or_else, one_if, one_values)

one_action : (x : ArgAction) (again : Bool) (a : Rule) (vs : List Text) (rows : List Row)
    → One (action_fault x again a vs rows)
one_action x again a vs rows = grind (arith, one_set, one_values, one_count)

one_range : (least most n : ℕ) → One (range_kinds least most n)
one_range least most n = grind (arith, one_if)

one_use : (again : Bool) (a : Rule) (vs : List Text) (rows : List Row) → One (use_fault again a vs rows)
one_use again a vs rows = grind (arith, one_or_else, one_range, one_action)

one_settle : (c : List Rule) (again : Bool) (h : Held) → One (settle_fault c again h)
one_settle c again h = grind (arith, one_option, one_use)

one_react : (c : List Rule) (again : Bool) (a : Rule) (vs : List Text) (h : Held) → One (react_fault c again a vs h)
one_react c again a vs h = grind (arith, one_or_else, one_settle, one_use)

one_opt : (c : List Rule) (again : Bool) (a : Rule) (v : Option Text) (h : Held) → One (option_fault c again a v h)
one_opt c again a (Some v) h = one_react c again a (v ∷ []) h
one_opt c again a None h = one_settle c again h

one_long : (c : List Rule) (again : Bool) (o : Option Rule) (v : Option Text) (h : Held)
    → One (long_fault c again o v h)
one_long c again None v h = tt
one_long c again (Some a) v h =
    one_if (takes_values a) _ _ (one_opt c again a v h)
    (one_if (is_some v) (kind.TooManyValues ∷ []) _ tt (one_react c again a [] h))

one_short : (c : List Rule) (again : Bool) (o : Option Rule) (rest : Text) (h : Held) (go : Held → Kinds)
    → ((g : Held) → One (go g)) → One (short_fault c again o rest h go)
one_short c again None rest h go all = tt
one_short c again (Some a) rest h go all =
    one_if (takes_values a) _ _ (one_opt c again a (attached_value rest) h)
    (one_or_else (react_fault c again a [] h) (go (reacted c a [] h)) (one_react c again a [] h)
    (all (reacted c a [] h)))

one_step : (c : List Rule) (again : Bool) (o : Option ℕ) (flags : Text) (skip : ℕ) (h : Held)
    (go : Text → ℕ → Held → Kinds)
    → ((t : Text) (n : ℕ) (g : Held) → One (go t n g)) → One (bundle_step_fault c again o flags skip h go)
one_step c again None flags skip h go all = tt
one_step c again (Some x) flags zero h go all = grind (arith, encode_utf8, one_short)
one_step c again (Some x) flags (suc skip) h go all = all (drop (length (encode_utf8 x)) flags) skip h

one_flags : (c : List Rule) (again : Bool) (k : ℕ) (flags : Text) (skip : ℕ) (h : Held)
    → One (flags_fault c again k flags skip h)
unfolding flags_fault
one_flags c again zero flags skip h = tt
one_flags c again (suc k) flags skip h =
    one_step c again (slice_get (chars flags) 0) flags skip h (flags_fault c again k) (one_flags c again k)

one_flag_word : (c : List Rule) (again : Bool) (o : Option (Text × Option Text)) (word : Text) (h : Held)
    → One (flag_word_fault c again o word h)
one_flag_word c again (Some p) word h = one_long c again (arg_by_long c p.0) p.1 h
one_flag_word c again None word h =
    one_option (λ flags. bundle_fault c again flags h) (short_of word)
    (λ flags. one_flags c again (length flags) flags h.skip (record h { skip = 0 }))

one_other : (s : Shape) (word : Text) (h : Held) → One (other_fault s None word h)
one_other s word h = one_if (bytes_eq word (45 ∷ 45 ∷ [])) [] _ tt
    (one_flag_word s.rules s.args_override_self (long_of word) word h)

none_met : (waiting : Waiting) (word : Text) → subcommand_met [] waiting word ≡ None
none_met waiting word = grind arith

one_word : (s : Shape) (trail : Bool) (waiting : Waiting) (word : Text) (h : Held)
    → One (word_fault s [] trail waiting word h)
one_word s trail waiting word h =
    one_if trail [] _ tt
    (subst (λ (o : Option Text). One (other_fault s o word h)) (sym (none_met waiting word)) (one_other s word h))

one_positional : (c : List Rule) (again : Bool) (a : Rule) (h : Held) → One (positional_fault c again a h)
one_positional c again a h = one_if (is_pending a h.pending && takes_several a) [] _ tt (one_settle c again h)

one_stray : (s : Shape) → s.is_leaf ≡ true → One (stray_fault s)
one_stray s leaf = subst (λ (b : Bool). One
    (if b then kind.UnknownArgument ∷ [] else kind.UnknownArgument ∷ kind.InvalidSubcommand ∷ [])) (sym leaf) tt

one_placed : (s : Shape) (o : Option Rule) (h : Held) → s.is_leaf ≡ true
    → One (option_map_or (λ a. positional_fault s.rules s.args_override_self a h) o (stray_fault s))
one_placed s None h leaf = one_stray s leaf
one_placed s (Some a) h leaf = one_positional s.rules s.args_override_self a h

one_stepped : (s : Shape) (position : ℕ) (h : Held) (x : Step) → s.is_leaf ≡ true → One (step_fault s position h x)
one_stepped s position h value leaf = one_placed s (arg_by_index s.rules position) h leaf
one_stepped s position h (next w) leaf = tt
one_stepped s position h (trailing n) leaf = tt
one_stepped s position h (subcommand t) leaf = tt

one_turn : (s : Shape) (w : Walk) (word : Text) → s.is_leaf ≡ true → One (turn_fault s [] w word)
one_turn s w word leaf = grind (arith, one_if, one_or_else, one_word, one_stepped)

one_walk : (s : Shape) (w : Walk) (words : List Text) → s.is_leaf ≡ true → One (walk_fault s [] w words)
unfolding walk_fault
one_walk s w [] leaf = tt
one_walk s w (word ∷ rest) leaf =
    one_or_else (turn_fault s [] w word) (walk_fault s [] (walked s.rules [] w word) rest)
    (one_turn s w word leaf) (one_walk s (walked s.rules [] w word) rest leaf)

one_default : (rows : List Row) (a : Rule) → One (default_fault rows a)
one_default rows a = grind (arith, one_if, one_or_else, one_values)

one_defaults : (rows : List Row) (c : List Rule) → One (defaults_fault rows c)
unfolding defaults_fault
one_defaults rows [] = tt
one_defaults rows (a ∷ rest) =
    one_or_else (default_fault rows a) (defaults_fault (with_default rows a) rest) (one_default rows a)
    (one_defaults (with_default rows a) rest)

one_check : (x y z : Bool) → One (check_kinds x y z)
one_check x y z = grind (arith, one_if)

one_level : (s : Shape) (h : Held) (words : List Text) → s.is_leaf ≡ true → One (level_fault s [] h words false [])
one_level s h words leaf =
    let end = (walk s.rules [] h words).held in
    one_or_else (walk_fault s [] (walk_from h) words) _ (one_walk s (walk_from h) words leaf)
    (one_or_else (settle_fault s.rules s.args_override_self end) _ (one_settle s.rules s.args_override_self end)
    (one_or_else (defaults_fault (settled s.rules end).rows s.rules) _ (one_defaults (settled s.rules end).rows s.rules)
    (one_check _ _ _)))

-- the kinds of a leaf
pub one_fault : (a : App) (words : List Text) → (built a).subs ≡ [] → (built a).top.is_leaf ≡ true
    → One (fault_of a words)
one_fault a words none leaf = grind (arith, leaf_fault, one_level)

-- if there is a kind, it is the whole list
