pub mod LostRuns
