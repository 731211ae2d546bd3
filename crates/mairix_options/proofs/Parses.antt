-- The plan is what the parser finds in the words, or its refusal.
use Rattle.mairix_options.proofs.Words.{◌≡◌, ◌⊎◌, true, List, [], Result, Ok, Err, IfOk, IfSome, refl, sym, subst, ap, arith, FailsBy, Text, HasMatchesOf, fault_of, matches_of, is_simple, is_simple_and_free, rows_of, found_of, kind_of, Error, ErrorKind, ArgMatches, if_some_map, Gives, ◌>>=◌, command, parse, parse_by, plan, plan_of_rows, plan_in, one_format, refusal_of_kind, kind_refusal, error_refusal, fault_of_kind, refusal, Plan, UsageFault, OrMemory}
use Rattle.clap.specs.Words.{Kinds, IsAmong, Row, built}
use Rattle.clap.specs.declared.error.kind.ErrorKind.TheVariants as kind
use Rattle.mairix_options.proofs.OneKind.{One, one_fault}

-- the command is one for which clap promises the parse
pub simple : is_simple command ≡ true
simple = refl

pub free : is_simple_and_free command ≡ true
free = refl

no_subcommands : (built command).subs ≡ []
no_subcommands = refl

leaf : (built command).top.is_leaf ≡ true
leaf = refl

-- a kind of error has its refusal; lack of memory has none
refused : (k : ErrorKind) → IfSome (kind_refusal k) (λ f. refusal_of_kind k ≡ f)
refused k = grind arith

refused_by : (k : ErrorKind) (ks : Kinds) (rows : List Row) → One ks → (k ≡ kind.OutOfMemory) ⊎ IsAmong k ks
    → IfSome (kind_refusal k) (λ f. parse_by ks rows ≡ Err f)
refused_by k ks rows h h2 = grind (arith, if_some_map, refused)

parse-taken : (words : List Text) (m : ArgMatches) → fault_of command words ≡ [] → rows_of (found_of m)
    ≡ matches_of command words
    → parse words ≡ Ok (plan_in m)
unfolding parse
parse-taken words m none same =
    subst (λ (all : Kinds). parse_by all (matches_of command words) ≡ Ok (plan_of_rows (rows_of (found_of m))))
    (sym none)
    (ap (λ (r : List Row). Ok (plan_of_rows r)) (sym same))

parse-refused : (words : List Text) (k : ErrorKind) → (k ≡ kind.OutOfMemory) ⊎ IsAmong k (fault_of command words)
    → IfSome (kind_refusal k) (λ f. parse words ≡ Err f)
unfolding parse
parse-refused words k has = refused_by k (fault_of command words) (matches_of command words)
    (one_fault command words no_subcommands leaf) has

pub Gives-parsed : (words : List Text) (r : Result ArgMatches Error) → IfOk r (HasMatchesOf command words)
    → FailsBy (fault_of command words) r
    → Gives plan_in error_refusal r (parse words)
Gives-parsed words (Ok m) matches none = parse-taken words m none (matches simple).0
Gives-parsed words (Err e) matches has = parse-refused words (kind_of e) has

-- words that the parser takes, with one form
pub Gives-planned : (words : List Text) (parsed : Result ArgMatches Error) (m : ArgMatches)
    (r : Result Plan (OrMemory UsageFault))
    → Gives plan_in error_refusal parsed (parse words) → parsed ≡ Ok m
    → Gives (λ p. p) refusal r (one_format (plan_in m)) → Gives (λ p. p) refusal r (plan words)
unfolding plan
Gives-planned words parsed m r gives is one =
    let takes = subst (λ (q : Result ArgMatches Error). Gives plan_in error_refusal q (parse words)) is gives in
    subst (Gives (λ p. p) refusal r) (ap (λ t. t >>= one_format) (sym takes)) one

-- a kind is reported as its refusal
told : (k : ErrorKind) (P : UsageFault → Type 0) → IfSome (kind_refusal k) P → IfSome (refusal (fault_of_kind k)) P
told k P h = grind arith

-- words that the parser refuses
pub Gives-refused : (words : List Text) (k : ErrorKind) (fault : OrMemory UsageFault) → fault ≡ fault_of_kind k
    → IfSome (kind_refusal k) (λ f. parse words ≡ Err f)
    → IfSome (refusal fault) (λ f. plan words ≡ Err f)
unfolding plan
Gives-refused words k fault is refuses =
    subst (λ (g : OrMemory UsageFault). IfSome (refusal g) (λ f. (parse words >>= one_format) ≡ Err f)) (sym is)
    (told k (λ f. (parse words >>= one_format) ≡ Err f)
    (if_some_map (kind_refusal k) (λ f. parse words ≡ Err f) (λ f. (parse words >>= one_format) ≡ Err f)
    (λ f same. ap (λ t. t >>= one_format) same) refuses))
