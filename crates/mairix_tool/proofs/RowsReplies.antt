-- Rows: whole runs that were worked out by hand, checked by computation.
use Rattle.mairix_tool.proofs.Words.{◌≡◌, ◌<◌, ℕ, zero, suc, Bool, true, false, nat_le, All, List, [], ◌∷◌, ◌++◌, map, length, None, Ok, Err, refl, sym, subst, arith, inl, inr, All-cons, All-nil, AreSound, table, mboxes, AreThreadsOf, AreChosen, IsLedToBySome, Fault, Wanted, mail_in, shape, answer_of_text, answer_of_fault, IsReply, Query as Asked, Word, Size, Not, End, More, Format, Raw, Excerpt, is_number_among}
use Rattle.std.specs.Char.{encode_utf8}
use Rattle.std.specs.Fmt.{digits}
use Rattle.std.specs.Prelude.{codes}
use Rattle.std.specs.Str.{chars}
use Rattle.std.proofs.lemmas.Bool.{eqb-true, leb-true, or_cases}
use Rattle.bstr.proofs.Computing.{computing}
use Rattle.caseless.proofs.Computing.{caseless}
use Rattle.clap.proofs.OnLiterals.{clap_on_literals}
use Rattle.unicode.proofs.CategoryComputing.{ucd_category}
use Rattle.unicode.proofs.DerivedComputing.{ucd_derived}
use Rattle.header_text.specs.Blanks.{before_blanks}
use Rattle.header_text.specs.Charsets.{charset_of, text_of}
use Rattle.header_text.specs.EncodedWords.{decoded_value, word_and_later, word_at}
use Rattle.header_text.specs.Escapes.{q_bytes, unescaped_bytes}
use Rattle.header_text.specs.Headers.{fields_of}
use Rattle.header_text.specs.Ids.{ids_of}
use Rattle.header_text.specs.Unfolding.{unfolded_body}
use Rattle.index_run.proofs.ArchivesDecided.{none-sound}
use Rattle.mail_answer.specs.Excerpts.{excerpt}
use Rattle.mail_answer.specs.Shapes.{closed_text}
use Rattle.mail_answer.specs.declared.format.Format.TheVariants.{Mbox}
use Rattle.mail_index.specs.Limits.{most_in_archive, most_in_index}
use Rattle.mail_query.specs.Kinds.{no_kinds}
use Rattle.mail_query.specs.Query.{All as AllOf, Either}
use Rattle.mail_query.specs.Sizes.{size_of, sizes_of}
use Rattle.mail_query.specs.Tokens.{query_tokens}
use Rattle.mail_words.specs.Words.{is_joiner, is_one_word, is_part_of_word, is_word, is_word_character, words}
use Rattle.mairix_options.specs.Blanks.{text_without_blanks}
use Rattle.mairix_options.specs.CommandLine.{parse, plan}
use Rattle.mbox_cutter.specs.Archives.{messages}
use Rattle.mbox_cutter.specs.Events.{archive_refusal}
use Rattle.mbox_cutter.specs.Lines.{first_length, is_empty, lines}
use Rattle.mbox_cutter.specs.Separators.{has_form, is_separator, without_break}
use Rattle.mime_text.specs.LeafTexts.{leaf_texts}
use Rattle.mime_text.specs.MessageFacts.{facts_of}
use Rattle.mime_text.specs.Parameters.{parameter, piece_of}
use Rattle.mime_text.specs.Parts.{is_delimiter}
use Rattle.mime_text.specs.Texts.{texts_of_message}
use Rattle.mime_text.specs.Types.{charset_of_value, shape_of_value, transfer_named}
use Rattle.index_job.specs.ArchiveTables.{Mbox as Archived}
use Rattle.mail_query.specs.declared.fault.QueryFaultKind.TheVariants.{BadPrefix}
use Rattle.mairix_options.specs.declared.command_line.UsageFault.TheVariants.{TwoFormats}
use Rattle.mairix_options.specs.declared.rcfile.Name.TheVariants.{Mbox as MboxLine}
use Rattle.mairix_options.specs.declared.rcfile.RcFault.TheVariants.{Missing}
use Rattle.mbox_cutter.specs.declared.event.CutFault.TheVariants.{NotAnMbox}
use Rattle.run_faults.specs.declared.fault.Fault.TheVariants.{Archive, Query, Rc, Usage}
use Rattle.mairix_tool.specs.WorkedReplies as row
use Rattle.mairix_tool.specs.WorkedReplies.{IsWorkedReply, ReplyRow, wanted_of_row}

-- what a proof unfolds to compute what words and rcfile mean
unfoldable asking : Unit {0}
unfolding parse plan clap_on_literals computing text_without_blanks size_of sizes_of query_tokens is_one_word
    is_part_of_word is_word
    is_joiner is_word_character ucd_derived ucd_category chars encode_utf8 caseless
asking = tt

-- what a proof unfolds to compute what archives say
unfoldable saying : Unit {0}
unfolding messages archive_refusal lines first_length is_empty is_separator without_break has_form fields_of
    before_blanks
    unfolded_body ids_of charset_of text_of decoded_value word_and_later word_at q_bytes unescaped_bytes facts_of
    leaf_texts piece_of
    parameter is_delimiter texts_of_message shape_of_value charset_of_value transfer_named words is_word is_joiner
    is_word_character ucd_derived ucd_category chars encode_utf8 caseless computing closed_text excerpt digits
saying = tt

-- ---- how each row is proved

of-refusal : (row : ReplyRow) (fault : Fault) → wanted_of_row row ≡ Err fault → row.answer ≡ answer_of_fault fault
    → IsWorkedReply row
unfolding IsWorkedReply
of-refusal row fault h h2 = subst (λ r. IsReply r row.archives row.answer) (sym h) h2

of-archives : (row : ReplyRow) (w : Wanted) → wanted_of_row row ≡ Ok w → IsReply (Ok w) row.archives row.answer
    → IsWorkedReply row
unfolding IsWorkedReply
of-archives row w h h2 = subst (λ r. IsReply r row.archives row.answer) (sym h) h2

abbrev NotRefused : Archived → Type 0
NotRefused a = archive_refusal most_in_archive a.bytes ≡ None

each-sound : (archives : List Archived)
    → map (λ (a : Archived). archive_refusal most_in_archive a.bytes) archives ≡ map (λ _. None) archives
    → All NotRefused archives
each-sound [] h = All-nil NotRefused
each-sound (a ∷ archives) h = All-cons NotRefused a archives (cc) (each-sound archives (cc))

-- each of these archives is sound, by computation
abbrev Pass : List Archived → Type 0
Pass archives =
    (map (λ (a : Archived). archive_refusal most_in_archive a.bytes) archives ≡ map (λ _. None) archives)
    × (nat_le (length (table archives).archives) most_in_index ≡ true)
    × (nat_le (length (table archives).messages) most_in_index ≡ true)
    × (nat_le (length (table archives).keys) most_in_index ≡ true)

sound : (archives : List Archived) → Pass archives → AreSound archives
sound archives h = record {
  each = each-sound archives h.0;
  few = record { archives = leb-true _ _ h.1; messages = leb-true _ _ h.2; keys = leb-true _ _ h.3 };
}

module _ (row : ReplyRow) (w : Wanted) (numbers : List ℕ) where
  abbrev archives : List Archived
  archives = mboxes w.paths row.archives

  of-answer : wanted_of_row row ≡ Ok w → Pass archives → AreChosen (mail_in archives) w.search numbers
      → row.answer ≡ answer_of_text (shape archives w.search.format numbers) (length numbers) → IsWorkedReply row
  of-answer h pass chosen same = of-archives row w h (inl (sound archives pass, (numbers, chosen, same)))

few : (n : ℕ) → is_number_among n (0 ∷ 1 ∷ []) ≡ true → n < 2
few n among = grind (arith, or_cases, eqb-true)

-- two messages that are linked are in one thread
two-linked : (linked : ℕ → ℕ → Bool) → linked 0 1 ≡ true → AreThreadsOf 2 linked (0 ∷ []) (0 ∷ 1 ∷ [])
two-linked linked h = record {
  rises = (omega arith, (omega arith, tt));
  each = λ n. (forth n, λ (given : (n < 2) × IsLedToBySome linked (0 ∷ []) n). back n given.0);
}
  where
    forth : (n : ℕ) → is_number_among n (0 ∷ 1 ∷ []) ≡ true → (n < 2) × IsLedToBySome linked (0 ∷ []) n
    forth zero among = (omega arith, (0, refl, ([], refl)))
    forth (suc zero) among = (omega arith, (0, refl, (1 ∷ [], (h, refl))))
    forth (suc (suc n)) among = absurd (omega (arith, few (suc (suc n)) among))

    back : (n : ℕ) → n < 2 → is_number_among n (0 ∷ 1 ∷ []) ≡ true
    back zero below = refl
    back (suc zero) below = refl
    back (suc (suc n)) below = absurd (omega (arith, below))

-- ---- the rows

-- a search without `--verify`
abbrev search_in : List (List ℕ) → Asked → Bool → Format → Wanted
search_in paths q threads format = record {
  paths = paths;
  search = record { query = q; threads = threads; format = format };
  verify = false;
}

abbrev subject : List ℕ → Asked
subject word = Word (record no_kinds { subject = true }) word

abbrev to : List ℕ → Asked
to word = Word (record no_kinds { to = true }) word

abbrev body : List ℕ → Asked
body word = Word (record no_kinds { body = true }) word

abbrev one : Asked → Format → Wanted
one q format = search_in (codes "m.mbox" ∷ []) q false format

abbrev two : Bool → Wanted
two threads = search_in (codes "a.mbox" ∷ codes "b.mbox" ∷ []) (body (codes "hi")) threads Raw

abbrev both : Asked
both = AllOf (More (subject (codes "hello")) (More (Not (body (codes "ho"))) End))

abbrev one_or_two : Asked
one_or_two = Either (More (subject (codes "one")) (More (subject (codes "two")) End))

abbrev greetings : Asked
greetings = subject (codes "gr" ++ 195 ∷ 188 ∷ codes "sse")

abbrev inner_outer : Asked
inner_outer = AllOf (More (body (codes "inner")) (More (body (codes "outer")) End))

asked : (wanted_of_row row.raw ≡ Ok (one (subject (codes "hello")) Raw))
    × (wanted_of_row row.no_message ≡ Ok (one (Size 20 None) Raw))
    × (wanted_of_row row.mbox ≡ Ok (one (subject (codes "hello")) Mbox))
    × (wanted_of_row row.excerpt_reply ≡ Ok (one (to (codes "alice")) Excerpt))
    × (wanted_of_row row.unwanted_word ≡ Ok (one (Not (to (codes "bob"))) Raw))
    × (wanted_of_row row.one_of_thread ≡ Ok (two false))
    × (wanted_of_row row.threads ≡ Ok (two true))
    × (wanted_of_row row.boolean ≡ Ok (one both Raw))
    × (wanted_of_row row.several ≡ Ok (one one_or_two Raw))
    × (wanted_of_row row.folded_word ≡ Ok (one greetings Raw))
    × (wanted_of_row row.inner_and_outer ≡ Ok (one inner_outer Raw))
    × (wanted_of_row row.no_mbox ≡ Ok (one (subject (codes "hello")) Raw))
unfolding asking
asked = (refl, refl, refl, refl, refl, refl, refl, refl, refl, refl, refl, refl)

pub bad_words : IsWorkedReply row.bad_words
unfolding asking
bad_words = of-refusal row.bad_words (Usage TwoFormats) refl refl

pub bad_rcfile : IsWorkedReply row.empty_rcfile
unfolding asking
bad_rcfile = of-refusal row.empty_rcfile (Rc (Missing MboxLine)) refl refl

pub bad_query : IsWorkedReply row.unknown_prefix
unfolding asking
bad_query = of-refusal row.unknown_prefix (Query (record { number = 1; kind = BadPrefix })) refl refl

pub raw : IsWorkedReply row.raw
unfolding saying
raw = of-answer row.raw (one (subject (codes "hello")) Raw) (0 ∷ []) asked.0 (refl, refl, refl, refl) refl refl

pub no_message : IsWorkedReply row.no_message
unfolding saying
no_message = of-answer row.no_message (one (Size 20 None) Raw) [] asked.1 (refl, refl, refl, refl) refl refl

pub mbox : IsWorkedReply row.mbox
unfolding saying
mbox = of-answer row.mbox (one (subject (codes "hello")) Mbox) (0 ∷ []) asked.2 (refl, refl, refl, refl) refl refl

pub excerpt_row : IsWorkedReply row.excerpt_reply
unfolding saying
excerpt_row = of-answer row.excerpt_reply (one (to (codes "alice")) Excerpt) (0 ∷ []) asked.3 (refl, refl, refl, refl)
    refl
    refl

pub negated : IsWorkedReply row.unwanted_word
unfolding saying
negated = of-answer row.unwanted_word (one (Not (to (codes "bob"))) Raw) (0 ∷ []) asked.4 (refl, refl, refl, refl) refl
    refl

pub alone : IsWorkedReply row.one_of_thread
unfolding saying
alone = of-answer row.one_of_thread (two false) (0 ∷ []) asked.5 (refl, refl, refl, refl) refl refl

pub threads : IsWorkedReply row.threads
unfolding saying
threads = of-answer row.threads (two true) (0 ∷ 1 ∷ []) asked.6 (refl, refl, refl, refl)
    (two-linked (mail_in (mboxes (two true).paths row.threads.archives)).linked refl) refl

pub boolean : IsWorkedReply row.boolean
unfolding saying
boolean = of-answer row.boolean (one both Raw) (0 ∷ []) asked.7 (refl, refl, refl, refl) refl refl

pub several : IsWorkedReply row.several
unfolding saying
several = of-answer row.several (one one_or_two Raw) (0 ∷ 1 ∷ []) asked.8 (refl, refl, refl, refl) refl refl

pub folded : IsWorkedReply row.folded_word
unfolding saying
folded = of-answer row.folded_word (one greetings Raw) (0 ∷ []) asked.9 (refl, refl, refl, refl) refl refl

pub parts : IsWorkedReply row.inner_and_outer
unfolding saying
parts = of-answer row.inner_and_outer (one inner_outer Raw) (0 ∷ []) asked.10 (refl, refl, refl, refl) refl refl

pub no_mbox : IsWorkedReply row.no_mbox
unfolding saying
no_mbox =
    of-archives row.no_mbox (one (subject (codes "hello")) Raw) asked.11
    (inr (
      Archive 0 NotAnMbox,
      (
        [],
        _,
        record { after = []; whole = refl },
        refl,
        record { sound = none-sound; few = omega arith; refused = refl },
      ),
      refl,
    ))
