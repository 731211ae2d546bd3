-- The definitions of mbox archives, of cutters and of devices.
pub mod Archives
pub mod Coming
pub mod Digests
pub mod Events
pub mod FaultTexts
pub mod Inside
pub mod LineReaders
pub mod Lines
pub mod Memory
pub mod Places
pub mod Progress
pub mod Separators
pub mod Sources
