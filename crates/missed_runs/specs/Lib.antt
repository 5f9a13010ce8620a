pub mod MissedRuns
