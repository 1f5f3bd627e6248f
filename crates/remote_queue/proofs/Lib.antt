mod DrawnKeys
mod Tables
