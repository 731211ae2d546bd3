-- How the logic stores a call of the system.
use Rattle.std.specs.Prelude.{◌≡◌, ℕ, ℤ, ◌==◌, List, [], Err, cond, refl}
use Rattle.std.specs.Coded.{Coded, code_by, coded×, coded_ℕ, coded_ℤ, coded_list, coded_result}
use base.Stored.{coded_unit}
use Rattle.system.specs.declared.call_error.CallError.{CallError}
use Rattle.system.specs.declared.file_kind.FileKind.{FileKind}
use Rattle.system.specs.declared.found.FileTime.{FileTime}
use Rattle.system.specs.declared.found.Found.{Found}
use Rattle.system.specs.SystemCalls.{CallAnswer, SystemCall, Looked, LookedAtLink, LookedAtFile, ReadLink, FoundPath}
use Rattle.system.specs.SystemCalls.{OpenedFile, MadeFile, ReopenedFile, LockedFile, SetMode, WroteBytes, SyncedFile}
use Rattle.system.specs.SystemCalls.{RenamedFile, RemovedName, ReadOn, ReadAt}

-- ---- errors

abbrev number_of_error : CallError → ℕ
number_of_error CallError.NotFound = 0
number_of_error CallError.OutOfMemory = 1
number_of_error CallError.Interrupted = 2
number_of_error CallError.Other = 3

abbrev error_of_number : ℕ → CallError
error_of_number n = cond (n == 0) CallError.NotFound (cond (n == 1) CallError.OutOfMemory
    (cond (n == 2) CallError.Interrupted CallError.Other))

pub error_of_number-number_of_error : (e : CallError) → error_of_number (number_of_error e) ≡ e
error_of_number-number_of_error CallError.NotFound = refl
error_of_number-number_of_error CallError.OutOfMemory = refl
error_of_number-number_of_error CallError.Interrupted = refl
error_of_number-number_of_error CallError.Other = refl

-- how the logic stores an error, by its number
abbrev pub call_error_code : Coded CallError
call_error_code = code_by ℕ coded_ℕ number_of_error error_of_number error_of_number-number_of_error

-- how the logic stores an answer, by the code of its value
abbrev pub answer_code : {A : Type 0} → Coded A → Coded (CallAnswer A)
answer_code code = coded_result code call_error_code

-- ---- what was found

abbrev number_of_file_kind : FileKind → ℕ
number_of_file_kind FileKind.File = 0
number_of_file_kind FileKind.Folder = 1
number_of_file_kind FileKind.Link = 2
number_of_file_kind FileKind.Other = 3

abbrev file_kind_of_number : ℕ → FileKind
file_kind_of_number n =
    cond (n == 0) FileKind.File (cond (n == 1) FileKind.Folder (cond (n == 2) FileKind.Link FileKind.Other))

pub file_kind_of_number-number_of_file_kind : (k : FileKind) → file_kind_of_number (number_of_file_kind k) ≡ k
file_kind_of_number-number_of_file_kind FileKind.File = refl
file_kind_of_number-number_of_file_kind FileKind.Folder = refl
file_kind_of_number-number_of_file_kind FileKind.Link = refl
file_kind_of_number-number_of_file_kind FileKind.Other = refl

abbrev file_kind_code : Coded FileKind
file_kind_code =
    code_by ℕ coded_ℕ number_of_file_kind file_kind_of_number file_kind_of_number-number_of_file_kind

abbrev file_time_code : Coded FileTime
file_time_code = code_by (ℤ × ℤ) (coded× coded_ℤ coded_ℤ) (λ time. (time.seconds, time.nanoseconds))
    (λ p. record { seconds = p.0; nanoseconds = p.1 }) (λ _. refl)

abbrev FoundParts : Type 0
FoundParts = ℕ × (ℕ × (FileKind × (ℕ × (ℕ × (ℕ × (ℕ × (ℕ × (FileTime × FileTime))))))))

abbrev parts_of_found : Found → FoundParts
parts_of_found f =
    (f.device, (f.inode, (f.kind, (f.length, (f.mode, (f.owner, (f.group, (f.links, (f.written, f.changed)))))))))

abbrev found_of_parts : FoundParts → Found
found_of_parts p = record {
  device = p.0;
  inode = p.1.0;
  kind = p.1.1.0;
  length = p.1.1.1.0;
  mode = p.1.1.1.1.0;
  owner = p.1.1.1.1.1.0;
  group = p.1.1.1.1.1.1.0;
  links = p.1.1.1.1.1.1.1.0;
  written = p.1.1.1.1.1.1.1.1.0;
  changed = p.1.1.1.1.1.1.1.1.1;
}

-- how the logic stores what was found, by its parts
abbrev pub found_code : Coded Found
found_code = code_by FoundParts
    (coded× coded_ℕ (coded× coded_ℕ (coded× file_kind_code (coded× coded_ℕ (coded× coded_ℕ (coded× coded_ℕ
    (coded× coded_ℕ (coded× coded_ℕ (coded× file_time_code file_time_code)))))))))
    parts_of_found found_of_parts (λ _. refl)

-- ---- calls

-- a kind, two names, two numbers, and an answer of each type
abbrev SystemCallParts : Type 0
SystemCallParts =
    ℕ × (List ℕ × (List ℕ × (ℕ × (ℕ × (CallAnswer (Unit {0}) × (CallAnswer (List ℕ) × CallAnswer Found))))))

-- in place of an answer of a type that a call doesn't have
abbrev none_of : {A : Type 0} → CallAnswer A
none_of = Err CallError.Other

abbrev parts_of_system_call : SystemCall → SystemCallParts
parts_of_system_call (Looked n a) = (0, (n, ([], (0, (0, (none_of, (none_of, a)))))))
parts_of_system_call (LookedAtLink n a) = (1, (n, ([], (0, (0, (none_of, (none_of, a)))))))
parts_of_system_call (LookedAtFile f a) = (2, ([], ([], (f, (0, (none_of, (none_of, a)))))))
parts_of_system_call (ReadLink n a) = (3, (n, ([], (0, (0, (none_of, (a, none_of)))))))
parts_of_system_call (FoundPath n a) = (4, (n, ([], (0, (0, (none_of, (a, none_of)))))))
parts_of_system_call (OpenedFile n a) = (5, (n, ([], (0, (0, (a, (none_of, none_of)))))))
parts_of_system_call (MadeFile n m a) = (6, (n, ([], (m, (0, (a, (none_of, none_of)))))))
parts_of_system_call (ReopenedFile f a) = (7, ([], ([], (f, (0, (a, (none_of, none_of)))))))
parts_of_system_call (LockedFile f a) = (8, ([], ([], (f, (0, (a, (none_of, none_of)))))))
parts_of_system_call (SetMode f m a) = (9, ([], ([], (f, (m, (a, (none_of, none_of)))))))
parts_of_system_call (WroteBytes f a) = (10, ([], ([], (f, (0, (none_of, (a, none_of)))))))
parts_of_system_call (SyncedFile f a) = (11, ([], ([], (f, (0, (a, (none_of, none_of)))))))
parts_of_system_call (RenamedFile n o a) = (12, (n, (o, (0, (0, (a, (none_of, none_of)))))))
parts_of_system_call (RemovedName n a) = (13, (n, ([], (0, (0, (a, (none_of, none_of)))))))
parts_of_system_call (ReadOn f a) = (14, ([], ([], (f, (0, (none_of, (a, none_of)))))))
parts_of_system_call (ReadAt f o a) = (15, ([], ([], (f, (o, (none_of, (a, none_of)))))))

abbrev system_call_of_parts : SystemCallParts → SystemCall
system_call_of_parts p =
    let n = p.1.0 in let o = p.1.1.0 in let f = p.1.1.1.0 in let m = p.1.1.1.1.0 in
    let done = p.1.1.1.1.1.0 in let bytes = p.1.1.1.1.1.1.0 in let seen = p.1.1.1.1.1.1.1 in
    cond (p.0 == 0) (Looked n seen) (cond (p.0 == 1) (LookedAtLink n seen) (cond (p.0 == 2) (LookedAtFile f seen)
    (cond (p.0 == 3) (ReadLink n bytes) (cond (p.0 == 4) (FoundPath n bytes) (cond (p.0 == 5) (OpenedFile n done)
    (cond (p.0 == 6) (MadeFile n f done) (cond (p.0 == 7) (ReopenedFile f done) (cond (p.0 == 8) (LockedFile f done)
    (cond (p.0 == 9) (SetMode f m done) (cond (p.0 == 10) (WroteBytes f bytes) (cond (p.0 == 11) (SyncedFile f done)
    (cond (p.0 == 12) (RenamedFile n o done) (cond (p.0 == 13) (RemovedName n done) (cond (p.0 == 14) (ReadOn f bytes)
    (ReadAt f m bytes)))))))))))))))

pub system_call_of_parts-parts_of_system_call : (call : SystemCall)
    → system_call_of_parts (parts_of_system_call call) ≡ call
system_call_of_parts-parts_of_system_call (Looked n a) = refl
system_call_of_parts-parts_of_system_call (LookedAtLink n a) = refl
system_call_of_parts-parts_of_system_call (LookedAtFile f a) = refl
system_call_of_parts-parts_of_system_call (ReadLink n a) = refl
system_call_of_parts-parts_of_system_call (FoundPath n a) = refl
system_call_of_parts-parts_of_system_call (OpenedFile n a) = refl
system_call_of_parts-parts_of_system_call (MadeFile n m a) = refl
system_call_of_parts-parts_of_system_call (ReopenedFile f a) = refl
system_call_of_parts-parts_of_system_call (LockedFile f a) = refl
system_call_of_parts-parts_of_system_call (SetMode f m a) = refl
system_call_of_parts-parts_of_system_call (WroteBytes f a) = refl
system_call_of_parts-parts_of_system_call (SyncedFile f a) = refl
system_call_of_parts-parts_of_system_call (RenamedFile n o a) = refl
system_call_of_parts-parts_of_system_call (RemovedName n a) = refl
system_call_of_parts-parts_of_system_call (ReadOn f a) = refl
system_call_of_parts-parts_of_system_call (ReadAt f o a) = refl

-- how the logic stores a call, by its parts
abbrev pub system_call_code : Coded SystemCall
system_call_code = code_by SystemCallParts
    (coded× coded_ℕ (coded× (coded_list coded_ℕ) (coded× (coded_list coded_ℕ) (coded× coded_ℕ (coded× coded_ℕ
    (coded× (answer_code coded_unit) (coded× (answer_code (coded_list coded_ℕ)) (answer_code found_code))))))))
    parts_of_system_call system_call_of_parts system_call_of_parts-parts_of_system_call
