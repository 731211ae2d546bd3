-- The number of archives, and the bytes that a read of one returns.
use Rattle.std.specs.Prelude.{◌≡◌, ℕ, List, Option, IfSome, Result, Ok, Err, length, take}
use Rattle.mbox_cutter.specs.declared.device.DeviceFault.{DeviceFault}

-- the number that a call returns is the number of archives
abbrev pub IsCount : ℕ → ℕ → Option (List (List ℕ)) → Type 0
IsCount told number held = (told ≡ number) × IfSome held (λ archives. length archives ≡ number)

-- The bytes that a call has read: as many at the front of the slice as it returns.
abbrev pub bytes_of_read : Result ℕ DeviceFault → List ℕ → Result (List ℕ) DeviceFault
bytes_of_read (Ok count) into = Ok (take count into)
bytes_of_read (Err fault) into = Err fault
