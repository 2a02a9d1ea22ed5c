-- The laws of the frame calls.
pub mod SkipLaws
pub mod FrameRecords
pub mod SettingsLaws
-- Demand 3, and the rows that may be sent.
pub mod FrameDemand3
-- What the code does.
pub mod Framed
