-- The passes over a frame, what one call of them answers and leaves, and lists of calls (document 01, Passes, Halting and Halting rule). Lines are those of the RFC's text file.
pub mod Entries
pub mod Pass
pub mod Calls
pub mod Smoothed
pub mod FinalRows
pub mod SentRows
-- how the arguments and the answer of a function are read as a call and its outcome
pub mod PassCalls
pub mod Answers
pub mod GridToPass
pub mod RecordBytes
-- passes and lists of calls, computed
pub mod SimpleExample
pub mod ExampleCalls
pub mod CallExamples
